use Rattle.std.proofs.Common.{codes, None, refl, leb-true, ltb-true}
use Rattle.std.specs.Fmt.{digits}
use Rattle.phone_values.specs.Ids.{id_of, name}
use Rattle.phone_plans.specs.CodeLookUps.{begins}
use Rattle.headline_examples.proofs.Kept.{stripped_kept}
use Rattle.headline_examples.proofs.NewZealand.{nz_settled}
use Rattle.headline_examples.specs.Samples.{nz}
use Rattle.headline_examples.proofs.by_library.settled.Goals as goal

pub returns : goal.returns
unfolding digits id_of name begins
returns c = record {
  settled = nz_settled None;
  if_read = record {
    prefix_free = refl;
    some_code = leb-true 1 _ refl;
    short_code = leb-true _ 999 refl;
    idle = stripped_kept nz (codes "33316005") refl;
  };
  alike = record {
    settled = nz_settled None;
    not_zero = ltb-true 0 _ refl;
    idle = refl;
  };
  coded = record {
    prefix_free = refl;
    listed = refl;
    some_code = leb-true 1 _ refl;
    short_code = leb-true _ 999 refl;
    held = (nz_settled None).held;
    long_enough = leb-true 2 _ refl;
    short_enough = leb-true _ 17 refl;
  };
  left_alone = stripped_kept nz (codes "33316005") refl;
  no_plus = refl;
}
