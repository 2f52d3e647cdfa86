use Rattle.phone_values.proofs.ReadBack.{text_is_read, text_is_printed}
use Rattle.phone_values.proofs.laws.text_printed_back.Goals as goal

pub returns-clause-read : goal.returns-clause-read
returns-clause-read c = text_is_read

pub returns-clause-printed : goal.returns-clause-printed
returns-clause-printed c = text_is_printed
