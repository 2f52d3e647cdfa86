use Rattle.phone_c_base.proofs.ReadPlaces.{all_read}
use Rattle.phone_c_base.proofs.laws.found_is_read.Goals as goal

pub returns : goal.returns
returns c = all_read
