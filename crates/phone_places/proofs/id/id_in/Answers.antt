use Rattle.phone_places.specs.Ids.{id_in}
use Rattle.phone_places.proofs.id.id_in.Goals as goal

pub returns : goal.returns
unfolding id_in
returns c = c.find_id.ensures
