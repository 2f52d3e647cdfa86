-- That the text of a number is grouped as such numbers are: as libphonenumber asks it of numbers in
-- a running text.
use Rattle.std.specs.Prelude.{ℕ, ◌==◌, ◌&&◌, ◌||◌, not, Bool, false, List, [], map}
use Rattle.std.specs.Prelude.{encode_utf8_all, length, Option, is_some, unwrap_or}
use Rattle.std.specs.Fmt.{decimal}
use Rattle.std.specs.List.{list_any}
use Rattle.std.specs.Option.{option_and_then, option_map_or}
use Rattle.phone_matches.specs.Exact.{digit_runs, is_exact}
use Rattle.phone_matches.specs.Layouts.{alternates_of, groups_abroad, groups_by}
use Rattle.phone_matches.specs.Strict.{behind_code, is_strict}
use Rattle.phone_matches.specs.declared.groupings.Strictness.{Strictness}
use Rattle.phone_matches.specs.declared.groupings.Strictness.TheVariants.{Exact, Strict}
use Rattle.phone_library_text.specs.Letters.{value_of}
use Rattle.phone_plans.specs.CodeLookUps.{first_of, territories}
use Rattle.phone_records.specs.declared.loader.Format.{Format}
use Rattle.phone_records.specs.declared.loader.Metadata.{Metadata}
use Rattle.phone_territory.specs.Records.{is_led}
use Rattle.phone_values.specs.Ids.{id_of}
use Rattle.phone_values.specs.Numbers.{text_of}
use Rattle.phone_values.specs.declared.reading.Reading.{Reading}

-- a digit of any script as that of ASCII; all else as it is
abbrev pub as_digit : ℕ → ℕ
as_digit c = unwrap_or (value_of c) c

-- a text with its digits so
abbrev pub with_digits : List ℕ → List ℕ
with_digits t = map as_digit t

-- the main territory of a number's code
abbrev pub main_territory : List Metadata → Reading → Option Metadata
main_territory db n = first_of (territories n.code.value db)

-- some text
abbrev pub is_something : List ℕ → Bool
is_something t = not (length t == 0)

-- a territory is a region's and has a national prefix
abbrev pub is_prefixed : Metadata → Bool
is_prefixed m =
    is_some (option_and_then id_of m.id) && option_map_or is_something m.national_prefix false

-- groups of a number stand in its text, so strictly
abbrev pub are_in_text : Strictness → List Metadata → Reading → List ℕ → List (List ℕ) → Bool
are_in_text Strict db n t gs =
    is_strict (option_map_or is_prefixed (main_territory db n) false) (text_of n.national)
    (unwrap_or n.extension [])
    (behind_code n.code.source (decimal n.code.value) (encode_utf8_all (with_digits t))) gs
are_in_text Exact db n t gs =
    is_exact (is_some n.extension) (text_of n.national) (digit_runs (with_digits t)) gs

-- some grouping of digits passes a test: that for calls from abroad, or that of an alternate layout
-- whose leading pattern matches at their front, or that has none
abbrev pub has_grouping : (List (List ℕ) → Bool) → Option Metadata → List Format → List ℕ → Bool
has_grouping test m alternates digits = test (groups_abroad m digits) ||
    list_any (λ f. is_led digits f && test (groups_by digits f)) alternates

-- the groups of some grouping of a number stand in its text
abbrev pub is_grouped : (db alternates : List Metadata) → Strictness → Reading → List ℕ → Bool
is_grouped db alternates strictness n t =
    has_grouping (are_in_text strictness db n t) (main_territory db n)
    (alternates_of alternates n.code.value) (text_of n.national)
