-- What is wrong in front of a number: a plus sign or a zero that is missing, a zero too many.
use Rattle.std.specs.Prelude.{◌≡◌, ℕ, nat_eq, Bool, false, List, ◌++◌, codes, chars}
use Rattle.std.specs.Prelude.{Option, Some, unwrap_or}
use Rattle.std.specs.Fmt.{decimal}
use Rattle.std.specs.List.{ends_with, filter}
use Rattle.std.specs.Option.{option_map_or}
use Rattle.phone_chars.specs.Characters.{is_digit}
use Rattle.phone_library_text.specs.Places.{parted}
use Rattle.phone_plans.specs.Records.{last_with}
use Rattle.phone_records.specs.declared.loader.Metadata.{Metadata}
use Rattle.phone_values.specs.Ids.{name}
use Rattle.phone_values.specs.declared.country.Id.{Id}
use Rattle.phone_values.specs.declared.country.Source.TheVariants.{Default}
use Rattle.phone_values.specs.declared.reading.Reading.{Reading}
use Rattle.phone_values.specs.declared.rules.Rules.{Rules}
use Rattle.phone_doubts.specs.Valid.{IsValidText}

-- the digits in front end in a calling code
abbrev pub ends_in_code : ℕ → List ℕ → Bool
ends_in_code code t = ends_with nat_eq (filter is_digit t) (decimal code)

-- brackets around a zero stand behind a number's calling code, as in `+39 (0)312`
abbrev pub has_zero_in_brackets : ℕ → List ℕ → Bool
has_zero_in_brackets code t = option_map_or (λ (p : List ℕ × List ℕ). ends_in_code code p.0)
    (parted (codes "(0)") t) false

-- with a plus sign in front, a text is read as another number of the calling code, which is valid
pub record IsReadSigned (rules : Rules) (db : List Metadata) (hint : Option Id) (t : List ℕ)
    (n : Reading) : Type 0 where
  pub other : Reading
  pub signed : IsValidText rules db hint (chars (codes "+" ++ t)) other
  pub same_code : other.code.value ≡ n.code.value
  pub other_number : ¬ (other.national ≡ n.national)

-- a number was read in it by the hint's calling code alone: so the text begins with that code,
-- which was read as a part of the number
pub record LacksPlus (rules : Rules) (db : List Metadata) (hint : Option Id) (t : List ℕ)
    (n : Reading) : Type 0 where
  pub by_hint : n.code.source ≡ Default
  pub signed : IsReadSigned rules db hint t n

-- what is dialled in front of a territory's national numbers: its national prefix; a zero where it
-- has none, since then a zero is a part of the number
abbrev pub lost_front : Metadata → List ℕ
lost_front m = unwrap_or m.national_prefix (codes "0")

-- a text is read as a valid number, by the hint's calling code alone
pub record IsDialledByHint (rules : Rules) (db : List Metadata) (hint : Option Id) (t : List ℕ) :
    Type 0 where
  pub whole : Reading
  pub dialled : IsValidText rules db hint t whole
  pub by_hint : whole.code.source ≡ Default

-- a text is read so with that in front of it
pub record LacksZero (rules : Rules) (db : List Metadata) (region : Id) (t : List ℕ) :
    Type 0 where
  pub territory : Metadata
  pub hinted : last_with (name region) db ≡ Some territory
  pub dialled : IsDialledByHint rules db (Some region) (chars (lost_front territory ++ t))
