use Rattle.std.proofs.Common.{◌≡◌, ◌≤◌, ◌++◌, [], length, leb-true, ltb-true}
use Rattle.std.proofs.Common.{None, codes, refl, ap, inr}
use Rattle.std.specs.Fmt.{digits}
use Rattle.std.specs.Str.{chars}
use Rattle.phone_values.specs.Ids.{name}
use Rattle.phone_library_text.specs.Written.{most_characters}
use Rattle.phone_read.specs.Strips.{Stripped}
use Rattle.phonenumber.proofs.BackTexts.{IsUtf8-low}
use Rattle.phone_library_laws.specs.Layouts.{IsLaidOut, is_quiet}
use Rattle.phone_library_laws.specs.Plain.{IsDialledInside}
use Rattle.headline_examples.proofs.Kept.{stripped_kept}
use Rattle.headline_examples.specs.Samples.{bare_ad, number}
use Rattle.headline_examples.proofs.by_library.two_digits_printed.Goals as goal

quietly : IsLaidOut is_quiet (chars (codes "12")) (codes "12")
unfolding chars
quietly = record { only = refl; same = refl; last = refl }

few : length (chars (codes "12" ++ [])) ≤ most_characters
unfolding chars
few = leb-true _ 250 refl

whole : chars (codes "12") ≡ [] ++ codes "12"
unfolding chars
whole = refl

inside : IsDialledInside bare_ad (number 376 0 12 None) (codes "12")
unfolding digits
inside = record {
  code = refl;
  no_prefix = refl;
  no_code = refl;
  left = ap (λ (s : Stripped). s.national) (stripped_kept bare_ad (codes "12") refl);
  held = (ltb-true _ _ refl, ltb-true _ _ refl);
  long_enough = leb-true 2 _ refl;
  short_enough = leb-true _ 17 refl;
}

pub returns : goal.returns
unfolding digits name
returns c = record {
  national = λ rules. record {
    layout = record {
      territory = bare_ad;
      first = refl;
      utf8 = IsUtf8-low (codes "12") refl;
      digits = codes "12";
      laid = quietly;
      enough = inr (record { two = refl; before = []; whole = whole; no_extension = refl });
      announced = tt;
      few = few;
    };
    dialled = inside;
  };
  hinted = refl;
}
