use Rattle.phone_read.proofs.ReadNumbers.{extension-digits}
use Rattle.phone_read.proofs.number_laws.extension_of_digits.Goals as goal

pub returns : goal.returns
returns c = extension-digits
