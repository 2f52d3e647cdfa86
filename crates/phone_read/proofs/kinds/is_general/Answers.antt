use Rattle.std.proofs.Common.{◌≡◌, IfOk, ap, sym, subst, ◌∙◌}
use Rattle.phone_territory.specs.Kinds.{Kinds}
use Rattle.phone_read.specs.Kinds.{is_of}
use Rattle.phone_read.proofs.kinds.is_general.Goals as goal

pub returns : goal.returns
returns c =
    subst (λ o. IfOk c.is_match.result (λ b. b ≡ is_of o c.args.digits.now))
    (sym c.general.ensures ∙ ap (λ (k : Kinds). k.general) c.descriptors.ensures) c.is_match.ensures.matched
