use Rattle.phone_parts.proofs.NaturalOnes.{natural_unique}
use Rattle.phone_parts.proofs.laws.one_natural_reading.Goals as goal

pub returns : goal.returns
returns c = natural_unique
