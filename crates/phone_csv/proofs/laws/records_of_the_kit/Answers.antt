use Rattle.phone_csv.proofs.KitRecords.{AreAll-records}
use Rattle.phone_csv.proofs.laws.records_of_the_kit.Goals as goal

pub returns : goal.returns
returns c = AreAll-records
