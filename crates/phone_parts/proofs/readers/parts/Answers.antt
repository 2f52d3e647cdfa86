use Rattle.phone_parts.specs.Parts.{parts_of}
use Rattle.phone_parts.specs.Readers
use Rattle.phone_parts.proofs.readers.parts.Goals as goal

pub returns-in-Some-clause-read : goal.returns-in-Some-clause-read
returns-in-Some-clause-read c = Readers.as_tel (parts_of c.in-Some.number) c.in-Some.ensures.read

pub returns-in-Ok-clause-read : goal.returns-in-Ok-clause-read
returns-in-Ok-clause-read c = Readers.as_natural (parts_of c.in-Ok.number) c.in_default.ensures.read c.in-Ok.ensures.read

pub returns-in-Err-clause-read : goal.returns-in-Err-clause-read
returns-in-Err-clause-read c = Readers.as_neither c.in-Err.field-0 c.in_default.ensures.read c.in-Err.ensures.read
