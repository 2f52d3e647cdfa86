use Rattle.phone_short.specs.Regions.{record_of}
use Rattle.phone_short.proofs.Records.{valid_is_possible}
use Rattle.phone_short.proofs.laws.valid_is_possible.Goals as goal

pub returns : goal.returns
returns c db region text = valid_is_possible text (record_of db region)
