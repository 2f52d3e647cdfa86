use Rattle.phone_laws.proofs.Beginnings.{area_begins, destination_begins}
use Rattle.phone_laws.proofs.own.area_code_begins.Goals as goal

pub returns-clause-destination : goal.returns-clause-destination
returns-clause-destination c = destination_begins

pub returns-clause-area : goal.returns-clause-area
returns-clause-area c = area_begins
