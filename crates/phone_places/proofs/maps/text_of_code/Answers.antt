use Rattle.std.proofs.Common.{subst}
use Rattle.phone_places.specs.Maps.{IsTextOf}
use Rattle.phone_places.proofs.maps.text_of_code.Goals as goal

pub returns : goal.returns
returns c = subst (λ d. IsTextOf c.args.table.now d c.text_of.result) c.format-digits.ensures.text c.text_of.ensures
