use Rattle.phone_places.proofs.Described.{elsewhere_named}
use Rattle.phone_places.proofs.laws.elsewhere_no_area.Goals as goal

pub returns : goal.returns
returns c db atlas user n region text at far told = elsewhere_named db atlas user n region text at far told
