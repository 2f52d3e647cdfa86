use Rattle.std.proofs.Common.{◌==◌, ap, length, not, sym, ◌∙◌}
use Rattle.std.proofs.lemmas.List.{length-map}
use Rattle.phone_plans.specs.Records.{has_code}
use Rattle.phone_plans.proofs.Places.{places_where-any}
use Rattle.phone_plans.proofs.plans.Plans.is_listed.Goals as goal

pub returns : goal.returns
returns c = rw (c.is_empty.ensures)
    (ap (λ n. not (n == 0)) (sym (length-map c.places_of.result.now (λ e. e.place)) ∙ ap length c.places_of.ensures)
    ∙ places_where-any (has_code c.args.code.now) c.args.self.now)
