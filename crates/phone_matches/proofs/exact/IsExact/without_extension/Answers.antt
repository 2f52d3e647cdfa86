use Rattle.std.proofs.Common.{arith, ap, sym, ◌∙◌}
use Rattle.phone_matches.proofs.Lists.{all_but_last}
use Rattle.phone_matches.specs.Exact.{without_extension}
use Rattle.phone_matches.specs.Runs.{told}
use Rattle.phone_matches.proofs.exact.IsExact.without_extension.Goals as goal

pub returns-then-self : goal.returns-then-self
returns-then-self c =
    all_but_last c.args.self.now.runs.now c.saturating_sub.result (omega (arith, c.saturating_sub.ensures))
    ∙ sym (ap (λ b. without_extension b (told c.args.self.now.runs.now)) c.if-self.true)
