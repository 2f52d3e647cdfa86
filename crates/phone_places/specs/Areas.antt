-- The area of a number.
use Rattle.std.specs.Prelude.{◌≡◌, ◌==◌, ℕ, if◌then◌else◌, List, [], ◌∷◌, Option, None, Some}
use Rattle.std.specs.Prelude.{Result, chars, unwrap_or}
use Rattle.std.specs.Result.{result_ok}
use Rattle.phone_languages.specs.Atlases.{IsArea}
use Rattle.phone_languages.specs.declared.atlas.Atlas.{Atlas}
use Rattle.phone_library.specs.Readings.{ReadsByLibrary}
use Rattle.phone_places.specs.Maps.{digits_of}
use Rattle.phone_records.specs.declared.loader.Metadata.{Metadata}
use Rattle.phone_values.specs.Numbers.{text_of}
use Rattle.phone_values.specs.declared.country.Id.TheVariants.{AR}
use Rattle.phone_values.specs.declared.error.ParseError.{ParseError}
use Rattle.phone_values.specs.declared.reading.Reading.{Reading}

-- what stands behind a 9
abbrev pub without_token : List ℕ → Option (List ℕ)
without_token [] = None
without_token (c ∷ cs) = if c == 57 then Some cs else None

-- what stands behind the token of mobile numbers, the 9 of Argentina's, in national digits of a
-- code; no other code has one
abbrev pub behind_token : ℕ → List ℕ → Option (List ℕ)
behind_token code digits = if code == 54 then without_token digits else None

-- the number that a text is read as in Argentina; none where it is refused
abbrev pub IsReadInArgentina : List Metadata → List ℕ → Option Reading → Type 0
IsReadInArgentina db t m =
    (r : Result Reading ParseError) × ReadsByLibrary db (Some AR) t r × (m ≡ result_ok r)

-- the number that is asked for in place of one with a token: that which the digits behind it are
-- read as; none where there are no such digits
abbrev pub IsOther : List Metadata → Option (List ℕ) → Option Reading → Type 0
IsOther db None m = m ≡ None
IsOther db (Some digits) m = IsReadInArgentina db (chars digits) m

-- the area of a number: that of the digits of the number that is asked for, itself where there is
-- no other
abbrev pub IsAreaOf : List Metadata → Atlas → Reading → List ℕ → Type 0
IsAreaOf db atlas n text = (m : Option Reading) ×
    IsOther db (behind_token n.code.value (text_of n.national)) m ×
    IsArea atlas (digits_of (unwrap_or m n)) text
