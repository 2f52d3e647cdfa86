use Rattle.phone_short.specs.Regions.{record_of}
use Rattle.phone_short.proofs.Records.{emergency_reaches}
use Rattle.phone_short.proofs.laws.emergency_reaches.Goals as goal

pub returns : goal.returns
returns c db region text = emergency_reaches text (record_of db region)
