use Rattle.phone_places.proofs.Described.{own_digits}
use Rattle.phone_places.proofs.laws.own_digits_outside_argentina.Goals as goal

pub returns : goal.returns
returns c db atlas n text other told = own_digits db atlas n text other told
