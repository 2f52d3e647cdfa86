use Rattle.std.proofs.Common.{◌≤◌, refl, arith, inr}
use Rattle.std.specs.Fmt.{digits}
use Rattle.std.specs.Str.{chars}
use Rattle.phone_values.specs.Ids.{id_of, name}
use Rattle.headline_examples.proofs.ByText.{international, is_plain}
use Rattle.headline_examples.proofs.Laid.{ad_short}
use Rattle.headline_examples.specs.Samples.{ad}
use Rattle.headline_examples.proofs.needed.two_digits.Goals as goal

pub returns : goal.returns
unfolding digits chars id_of name
returns c = record {
  e164 = (ad, is_plain refl refl);
  rfc3966 = λ h. let short : 3 ≤ 2 = h.plain.long_enough in omega (arith, short);
  international = international ad ad_short (is_plain refl refl) refl (omega arith) refl refl;
  idle = inr (ad, refl, refl);
}
