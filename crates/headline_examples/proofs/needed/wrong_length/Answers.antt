use Rattle.std.proofs.Common.{◌≤◌, arith}
use Rattle.std.proofs.lemmas.Option.{none-some}
use Rattle.std.specs.Fmt.{digits}
use Rattle.headline_examples.proofs.needed.wrong_length.Goals as goal

pub returns : goal.returns
unfolding digits
returns c = record {
  unlisted = λ h. none-some h.0 h.1.listed;
  one_digit = λ h. let short : 2 ≤ 1 = h.1.long_enough in omega (arith, short);
  eighteen = λ h. let long : 18 ≤ 17 = h.1.short_enough in omega (arith, long);
}
