use Rattle.std.proofs.Common.{leb-true, refl}
use Rattle.std.specs.Fmt.{digits}
use Rattle.phone_values.specs.Ids.{name}
use Rattle.headline_examples.specs.Samples.{bare_ad}
use Rattle.headline_examples.proofs.by_library.own_number.Goals as goal

pub returns : goal.returns
unfolding digits name
returns c = record {
  territory = bare_ad;
  is_hint = refl;
  no_prefix = refl;
  no_pattern = refl;
  digits_alone = refl;
  enough = leb-true 3 _ refl;
  few = leb-true _ 250 refl;
  not_zeros = refl;
  not_international = refl;
  no_code = refl;
}
