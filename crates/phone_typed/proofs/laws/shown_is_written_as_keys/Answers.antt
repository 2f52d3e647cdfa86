use Rattle.phone_typed.proofs.ShownWritten.{shown_signed, shown_unsigned}
use Rattle.phone_typed.proofs.laws.shown_is_written_as_keys.Goals as goal

pub returns-clause-signed : goal.returns-clause-signed
returns-clause-signed c = shown_signed

pub returns-clause-unsigned : goal.returns-clause-unsigned
returns-clause-unsigned c = shown_unsigned
