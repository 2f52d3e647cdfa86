-- How strictly the numbers of a text are judged: as libphonenumber's leniencies do.
use Rattle.std.specs.Prelude.{◌≡◌, ◌&&◌, not, ℕ, Bool, true, false, List}
use Rattle.phone_matches.specs.Groupings.{is_grouped}
use Rattle.phone_matches.specs.Slashes.{has_many_slashes}
use Rattle.phone_matches.specs.declared.groupings.Strictness.{Strictness}
use Rattle.phone_matches.specs.declared.groupings.Strictness.TheVariants.{Exact, Strict}
use Rattle.phone_library.specs.Facts.{is_valid_number}
use Rattle.phone_matches_text.specs.Neighbours.{stands_free}
use Rattle.phone_matches.specs.Marks.{HasGoodMarks}
use Rattle.phone_matches.specs.Prefixes.{has_prefix}
use Rattle.phone_matches.specs.declared.leniency.Leniency.{Leniency}
use Rattle.phone_matches.specs.declared.leniency.Leniency.TheVariants.{ExactGrouping}
use Rattle.phone_matches.specs.declared.leniency.Leniency.TheVariants.{Possible}
use Rattle.phone_matches.specs.declared.leniency.Leniency.TheVariants.{StrictGrouping, Valid}
use Rattle.phone_questions.specs.Possible.{possibility_as}
use Rattle.phone_records.specs.declared.loader.Metadata.{Metadata}
use Rattle.phone_values.specs.declared.kind.«Type».TheVariants.{Unknown}
use Rattle.phone_values.specs.declared.reading.Reading.{Reading}
use Rattle.phone_values.specs.declared.validator.Validation.{Validation}
use Rattle.phone_values.specs.declared.validator.Validation.TheVariants as verdict

-- the count of digits is that of a number, perhaps only inside an area
abbrev pub is_possible_count : Validation → Bool
is_possible_count verdict.IsPossible = true
is_possible_count verdict.IsPossibleLocalOnly = true
is_possible_count other = false

-- a number is possible by the lengths of its main territory
abbrev pub is_possible : List Metadata → Reading → Bool
is_possible db n = is_possible_count (possibility_as db Unknown n)

-- a number that is read from a text is grouped there, so strictly, as such numbers are, and hasn't
-- too many slashes
abbrev pub is_grouped_well : (db alternates : List Metadata) → Strictness → Reading → List ℕ → Bool
is_grouped_well db alternates strictness n t =
    not (has_many_slashes n.code t) && is_grouped db alternates strictness n t

-- a number that is read from a text is valid there: its `x` announce what they should, and it has
-- the national prefix that it should have
pub record IsValidIn (db : List Metadata) (n : Reading) (t : List ℕ) : Type 0 where
  pub valid : is_valid_number db n ≡ true
  pub marks : HasGoodMarks db n t
  pub prefix : has_prefix db n t ≡ true

-- a number that is read from a text suffices: it is possible; it is valid there; or it is valid
-- there, and grouped as strictly as is asked
pub data Suffices (db alternates : List Metadata) (n : Reading) (t : List ℕ) :
    Leniency → Type 0 where
  possible : is_possible db n ≡ true → Suffices db alternates n t Possible
  valid : IsValidIn db n t → Suffices db alternates n t Valid
  strict : IsValidIn db n t → is_grouped_well db alternates Strict n t ≡ true →
      Suffices db alternates n t StrictGrouping
  exact : IsValidIn db n t → is_grouped_well db alternates Exact n t ≡ true →
      Suffices db alternates n t ExactGrouping

-- what may stand beside a number: of a possible one anything
abbrev pub is_free : Leniency → (before piece after : List ℕ) → Bool
is_free Possible before piece after = true
is_free Valid before piece after = stands_free before piece after
is_free StrictGrouping before piece after = stands_free before piece after
is_free ExactGrouping before piece after = stands_free before piece after
