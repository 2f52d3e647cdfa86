use Rattle.phone_values.proofs.Digits.{national_in-text_of}
use Rattle.phone_values.proofs.laws.number_read_back.Goals as goal

pub returns : goal.returns
returns c n held some = national_in-text_of n held.0 some held.1
