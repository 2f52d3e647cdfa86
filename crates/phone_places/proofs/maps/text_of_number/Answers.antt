use Rattle.std.proofs.Common.{subst, ◌∙◌}
use Rattle.phone_places.specs.Maps.{IsTextOf}
use Rattle.phone_places.proofs.maps.text_of_number.Goals as goal

pub returns : goal.returns
returns c = subst (λ d. IsTextOf c.args.table.now d c.text_of.result) (c.as_str.ensures.value ∙ c.in_ok-digits.ensures) c.text_of.ensures
