use Rattle.std.proofs.Common.{subst, ◌∙◌}
use Rattle.std.specs.Prelude.{MatchOption}
use Rattle.phone_prefixes.specs.Tables.{IsLongest, NoneBegins}
use Rattle.phone_places.proofs.digits.of_number.Goals as goal

pub returns : goal.returns
returns c =
    subst (λ d. MatchOption c.longest.result (NoneBegins c.args.table.now d) (λ e. IsLongest c.args.table.now d (record { prefix = e.0.now; text = e.1.now })))
    (c.as_str.ensures.value ∙ c.in_ok-digits.ensures) c.longest.ensures
