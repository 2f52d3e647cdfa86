use Rattle.phone_library_laws.proofs.AllowedLengths.{valid-allowed, valid-possible}
use Rattle.phone_library_laws.proofs.facts.valid_is_possible.Goals as goal

pub returns-clause-allowed : goal.returns-clause-allowed
returns-clause-allowed c = valid-allowed

pub returns-clause-possible : goal.returns-clause-possible
returns-clause-possible c = valid-possible
