-- What is left of a number that has too many digits, once digits are cut off its end: as
-- libphonenumber cuts them.
use Rattle.std.specs.Prelude.{◌≡◌, ℕ, zero, suc, ◌/◌, ◌==◌, ◌&&◌, not, Bool, true, false, List, []}
use Rattle.std.specs.Prelude.{◌∷◌, ◌++◌, if◌then◌else◌, Option}
use Rattle.std.specs.List.{find}
use Rattle.std.specs.Option.{option_map_or}
use Rattle.phone_values.specs.Numbers.{National, text_of}
use Rattle.phone_values.specs.declared.kind.«Type».TheVariants.{Unknown}
use Rattle.phone_values.specs.declared.reading.Reading.{Reading}
use Rattle.phone_values.specs.declared.validator.Validation.{Validation}
use Rattle.phone_values.specs.declared.validator.Validation.TheVariants.{TooShort}
use Rattle.phone_library.specs.Facts.{is_valid_number}
use Rattle.phone_territory.specs.Records.{allows_length}
use Rattle.phone_records.specs.declared.loader.Metadata.{Metadata}
use Rattle.phone_questions.specs.Possible.{possibility_as}

-- a number with another national number
abbrev pub with_national : Reading → National → Reading
with_national n national = record n { national = national }

-- a national number without the last digit of its value; its leading zeros stay
abbrev pub shortened : National → National
shortened n = record { zeros = n.zeros; value = n.value / 10 }

-- the same of a number
abbrev pub cut : Reading → Reading
cut n = with_national n (shortened n.national)

-- a verdict that more digits are missing
abbrev pub is_too_short : Validation → Bool
is_too_short TooShort = true
is_too_short _ = false

-- a territory has numbers of so many digits
abbrev pub has_length : ℕ → Metadata → Bool
has_length n m = option_map_or (λ d. allows_length d n) m.general false

-- digits are left, and not too few
abbrev pub is_left : List Metadata → Reading → Bool
is_left db n = not (n.national.value == 0) && not (is_too_short (possibility_as db Unknown n))

-- the number without its last digit, without its last two, and so on, at most so many of them, as
-- long as digits are left
unfoldable pub cuts : List Metadata → ℕ → Reading → List Reading
cuts db zero n = []
cuts db (suc most) n = if is_left db (cut n) then cut n ∷ cuts db most (cut n) else []

-- a number that is valid, else the first of its cuts that is; no value has more than 17 digits
abbrev pub truncated : List Metadata → Reading → Option Reading
truncated db n = find (is_valid_number db) (n ∷ cuts db 17 n)

-- a number but for digits that are cut off its end, one at least
pub record IsCutFrom (n t : Reading) : Type 0 where
  pub digit : ℕ
  pub rest : List ℕ
  pub same : with_national n t.national ≡ t
  pub whole : text_of n.national ≡ text_of t.national ++ digit ∷ rest
