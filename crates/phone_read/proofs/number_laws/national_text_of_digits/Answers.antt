use Rattle.phone_read.proofs.ReadNumbers.{national-digits}
use Rattle.phone_read.proofs.number_laws.national_text_of_digits.Goals as goal

pub returns : goal.returns
returns c = record {
  not_zero = λ db hint text n plain h. (national-digits db hint text n plain h).not_zero;
  long_enough = λ db hint text n plain h. (national-digits db hint text n plain h).long_enough;
  short_enough = λ db hint text n plain h. (national-digits db hint text n plain h).short_enough;
}
