use Rattle.std.proofs.Common.{None, codes, leb-true, refl, arith, inl, inr}
use Rattle.std.specs.Fmt.{digits}
use Rattle.std.specs.Str.{chars}
use Rattle.phone_values.specs.Ids.{id_of, name}
use Rattle.phone_plans.specs.CodeLookUps.{begins}
use Rattle.phonenumber.proofs.BackTexts.{IsUtf8-low}
use Rattle.headline_examples.proofs.ByText.{international, is_plain}
use Rattle.headline_examples.proofs.Laid.{nz_laid}
use Rattle.headline_examples.proofs.ByText.{ends_in_digit}
use Rattle.std.proofs.Common.{ap, ◌∙◌}
use Rattle.headline_examples.specs.Samples.{nz}
use Rattle.ucd_case.proofs.Computing.{ucd_case}
use Rattle.ucd_category.proofs.Computing.{ucd_category}
use Rattle.phone_find.specs.Rules.{dates, followers, labels, stamps}
use Rattle.phone_find.specs.Sets.{stands_for, stands_plainly}
use Rattle.headline_examples.proofs.dialled.found_in_a_text.Goals as goal

pub returns : goal.returns
unfolding digits chars id_of name begins ucd_case ucd_category dates followers labels stamps stands_for stands_plainly
returns c = record {
  enough = record {
    plain = international nz (nz_laid None) (is_plain refl refl) refl (omega arith) refl refl;
    idle = inr (nz, refl, refl);
    announced = inl refl;
    some_code = omega arith;
    few_digits = omega arith;
    prefix_free = refl;
    enough = refl;
  };
  ends = record { laid = ap ends_in_digit (nz_laid None) ∙ refl; extension = inl refl };
  shaped = record { short = leb-true _ 250 refl; piece = refl };
  only = record { bracketed = refl; dateless = refl; unfollowed = refl; unstamped = refl };
  among = record {
    before_utf8 = IsUtf8-low (codes "call") refl;
    piece_utf8 = IsUtf8-low (codes "+64 3 331 6005") refl;
    after_utf8 = IsUtf8-low (codes "today") refl;
    no_opening = refl;
    no_last = refl;
  };
  by_library = refl;
}
