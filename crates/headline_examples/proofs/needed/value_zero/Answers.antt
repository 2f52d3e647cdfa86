use Rattle.std.proofs.Common.{◌<◌, refl, arith, inr}
use Rattle.phone_values.specs.Ids.{id_of, name}
use Rattle.headline_examples.specs.Samples.{ad}
use Rattle.headline_examples.proofs.needed.value_zero.Goals as goal

none_below : ¬ (0 < 0)
none_below h = omega (arith, h)

pub returns : goal.returns
unfolding id_of name
returns c = record {
  e164 = λ h. none_below h.1.not_zero;
  rfc3966 = λ h. none_below h.plain.not_zero;
  international = λ h. none_below h.plain.not_zero;
  idle = inr (ad, refl, refl);
}
