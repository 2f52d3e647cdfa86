-- Digits that are tried without their last ones; and laws of what is found.
use Rattle.std.proofs.Common.{◌≡◌, ℕ, Bool, true, false, if◌then◌else◌, List, [], ◌∷◌, ◌++◌, Option, None, Some, Result, Ok, Err, is_some, refl, ap, sym, subst, ◌∙◌, true≢false}
use Rattle.std.proofs.lemmas.Option.{none-some, same_Some}
use Rattle.phone_values.specs.declared.country.Id.{Id}
use Rattle.phone_values.specs.declared.error.ParseError.{ParseError}
use Rattle.phone_values.specs.declared.reading.Reading.{Reading}
use Rattle.phone_library.specs.Facts.{is_valid_number}
use Rattle.phone_records.specs.declared.loader.Metadata.{Metadata}
use Rattle.phone_further.specs.Invalid
use Rattle.phone_further.specs.Invalid.{IsFirstInvalid, IsInvalidExample, IsInvalidRead, if_invalid, is_short}

-- what isn't there, and what is
pub none_of : {X : Type 0} (found : Option X) → is_some found ≡ false → found ≡ None
none_of None e = refl
none_of (Some x) e = absurd (true≢false e)

module _ (db : List Metadata) (region : Id) (t front : List ℕ) (c : ℕ) (whole : t ≡ front ++ c ∷ []) where
  -- fewer than two digits are left
  pub short_so : is_short front ≡ true → IsFirstInvalid db region t None
  short_so h = subst (λ s. IsFirstInvalid db region s None) (sym whole) (Invalid.short front c h)

  pub found_so : (found : Option Reading) → is_some found ≡ true → is_short front ≡ false → IsInvalidRead db region front found →
      IsFirstInvalid db region t found
  found_so None e h r = absurd (true≢false (sym e))
  found_so (Some n) e h r = subst (λ s. IsFirstInvalid db region s (Some n)) (sym whole) (Invalid.invalid front c n h r)

  pub shorter_so : (tried : Option Reading) → is_some tried ≡ false → is_short front ≡ false → IsInvalidRead db region front tried →
      (found : Option Reading) → IsFirstInvalid db region front found → IsFirstInvalid db region t found
  shorter_so tried e h r found later =
      subst (λ s. IsFirstInvalid db region s found) (sym whole)
      (Invalid.shorter front c found h (subst (IsInvalidRead db region front) (none_of tried e) r) later)

pub empty_so : (db : List Metadata) (region : Id) (t : List ℕ) → t ≡ [] → IsFirstInvalid db region t None
empty_so db region t e = subst (λ s. IsFirstInvalid db region s None) (sym e) Invalid.empty

if_by : (db : List Metadata) (k m : Reading) (valid : Bool) → is_valid_number db k ≡ valid →
    (if valid then None else Some k) ≡ Some m → is_valid_number db m ≡ false
if_by db k m true e h = absurd (none-some m h)
if_by db k m false e h = ap (is_valid_number db) (sym (same_Some k m h)) ∙ e

read_invalid : (db : List Metadata) (r : Result Reading ParseError) (m : Reading) → if_invalid db r ≡ Some m → is_valid_number db m ≡ false
read_invalid db (Ok k) m h = if_by db k m (is_valid_number db k) refl h
read_invalid db (Err e) m h = absurd (none-some m h)

first_invalid : (db : List Metadata) (region : Id) (t : List ℕ) (found : Option Reading) → IsFirstInvalid db region t found →
    (n : Reading) → found ≡ Some n → is_valid_number db n ≡ false
first_invalid db region t found Invalid.empty n e = absurd (none-some n e)
first_invalid db region t found (Invalid.short front c h) n e = absurd (none-some n e)
first_invalid db region t found (Invalid.invalid front c m h (r, reads, f)) n e = read_invalid db r n (sym f ∙ e)
first_invalid db region t found (Invalid.shorter front c _ h read later) n e = first_invalid db region front found later n e

example_by : (db : List Metadata) (region : Id) (found : Option Reading) → IsInvalidExample db region found →
    (n : Reading) → found ≡ Some n → is_valid_number db n ≡ false
example_by db region found (Invalid.no_example none) n e = absurd (none-some n e)
example_by db region found (Invalid.made text _ is tried) n e = first_invalid db region _ found tried n e

pub invalid_is_invalid : (db : List Metadata) (region : Id) (n : Reading) → IsInvalidExample db region (Some n) → is_valid_number db n ≡ false
invalid_is_invalid db region n h = example_by db region (Some n) h n refl
