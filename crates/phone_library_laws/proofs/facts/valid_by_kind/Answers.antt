use Rattle.phone_library_laws.proofs.ValidNumbers.{territory-code, valid-known, valid-territory}
use Rattle.phone_library_laws.proofs.facts.valid_by_kind.Goals as goal

pub returns-clause-known : goal.returns-clause-known
returns-clause-known c = valid-known

pub returns-clause-in_territory : goal.returns-clause-in_territory
returns-clause-in_territory c = valid-territory

pub returns-clause-of_code : goal.returns-clause-of_code
returns-clause-of_code c = territory-code
