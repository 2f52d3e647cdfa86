use Rattle.phone_short.specs.Regions.{record_of}
use Rattle.phone_short.proofs.Records.{emergency_kind}
use Rattle.phone_short.proofs.laws.emergency_kind.Goals as goal

pub returns : goal.returns
returns c db region text = emergency_kind text (record_of db region)
