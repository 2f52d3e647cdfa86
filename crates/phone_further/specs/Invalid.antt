-- An example of a number that is no valid one: as libphonenumber makes it.
use Rattle.std.specs.Prelude.{◌≡◌, ℕ, nat_lt, Bool, true, false, if◌then◌else◌, List, [], ◌∷◌}
use Rattle.std.specs.Prelude.{◌++◌, chars, length}
use Rattle.std.specs.Prelude.{Option, None, Some, Result, Ok, Err}
use Rattle.std.specs.Option.{option_and_then}
use Rattle.phone_values.specs.Ids.{name}
use Rattle.phone_values.specs.declared.country.Id.{Id}
use Rattle.phone_values.specs.declared.error.ParseError.{ParseError}
use Rattle.phone_values.specs.declared.kind.«Type».TheVariants.{FixedLine}
use Rattle.phone_values.specs.declared.reading.Reading.{Reading}
use Rattle.phone_library.specs.Facts.{is_valid_number}
use Rattle.phone_library.specs.Readings.{ReadsByLibrary}
use Rattle.phone_plans.specs.Records.{last_with}
use Rattle.phone_records.specs.declared.loader.Metadata.{Metadata}
use Rattle.phone_further.specs.Examples.{example_in}

-- what is read, where it is a number that isn't valid
abbrev pub if_invalid : List Metadata → Result Reading ParseError → Option Reading
if_invalid db (Ok n) = if is_valid_number db n then None else Some n
if_invalid db (Err e) = None

-- what digits are read as under a region, where that is a number that isn't valid
abbrev pub IsInvalidRead : List Metadata → Id → List ℕ → Option Reading → Type 0
IsInvalidRead db region t found = (read : Result Reading ParseError) ×
    ReadsByLibrary db (Some region) t read × (found ≡ if_invalid db read)

-- fewer than two digits
abbrev pub is_short : List ℕ → Bool
is_short t = nat_lt (length t) 2

-- the first number that isn't valid, of digits without their last one, their last two and so on,
-- while two digits are left
pub data IsFirstInvalid (db : List Metadata) (region : Id) : List ℕ → Option Reading → Type 0 where
  empty : IsFirstInvalid db region [] None
  short : (front : List ℕ) (c : ℕ) → is_short front ≡ true →
      IsFirstInvalid db region (front ++ c ∷ []) None
  invalid : (front : List ℕ) (c : ℕ) (n : Reading) → is_short front ≡ false →
      IsInvalidRead db region front (Some n) → IsFirstInvalid db region (front ++ c ∷ []) (Some n)
  shorter : (front : List ℕ) (c : ℕ) (found : Option Reading) → is_short front ≡ false →
      IsInvalidRead db region front None → IsFirstInvalid db region front found →
      IsFirstInvalid db region (front ++ c ∷ []) found

-- the example of a region's fixed lines
abbrev pub fixed_line_example : List Metadata → Id → Option (List ℕ)
fixed_line_example db region = option_and_then (λ m. example_in m FixedLine)
    (last_with (name region) db)

-- a number of a region that isn't valid: made of that example; none without it
pub data IsInvalidExample (db : List Metadata) (region : Id) : Option Reading → Type 0 where
  no_example : fixed_line_example db region ≡ None → IsInvalidExample db region None
  made : (text : List ℕ) (found : Option Reading) → fixed_line_example db region ≡ Some text →
      IsFirstInvalid db region (chars text) found → IsInvalidExample db region found
