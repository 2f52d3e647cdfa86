use Rattle.std.proofs.Common.{refl, inr}
use Rattle.std.specs.Fmt.{digits}
use Rattle.phone_values.specs.Ids.{id_of, name}
use Rattle.phone_plans.specs.CodeLookUps.{begins}
use Rattle.headline_examples.proofs.ByText.{is_plain}
use Rattle.headline_examples.specs.Samples.{ar, bare_ad}
use Rattle.headline_examples.proofs.needed.codes_apart.Goals as goal

pub returns : goal.returns
unfolding digits id_of name begins
returns c = record {
  prefix_free = refl;
  plain = (bare_ad, is_plain refl refl);
  idle = inr (bare_ad, refl, refl);
  another = refl;
  four_digits = (ar, is_plain refl refl);
  four_digits_idle = inr (ar, refl, refl);
  none = refl;
}
