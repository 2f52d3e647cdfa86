use Rattle.std.proofs.Common.{arith}
use Rattle.phone_values.proofs.Texts.{name-id_of}
use Rattle.phone_values.proofs.country.IdDeserialize.deserialize.Goals as goal

pub returns-in-Ok : goal.returns-in-Ok
returns-in-Ok g c = grind (arith, name-id_of)
