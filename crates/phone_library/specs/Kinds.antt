-- What kind of number digits are in a territory, and which territory of a calling code has them: as
-- libphonenumber tells.
use Rattle.std.specs.Prelude.{ℕ, ◌&&◌, Bool, false, if◌then◌else◌, List, [], ◌∷◌, length, Option}
use Rattle.std.specs.Prelude.{None, Some}
use Rattle.std.specs.List.{find}
use Rattle.std.specs.Option.{option_map_or}
use Rattle.phone_values.specs.declared.kind.«Type».{«Type»}
use Rattle.phone_values.specs.declared.kind.«Type».TheVariants.{FixedLine, FixedLineOrMobile}
use Rattle.phone_values.specs.declared.kind.«Type».TheVariants.{Unknown}
use Rattle.phone_read.specs.Kinds.{is_known, tried_kinds}
use Rattle.phone_plans.specs.CodeLookUps.{territories}
use Rattle.phone_records.specs.declared.loader.Descriptor.{Descriptor}
use Rattle.phone_records.specs.declared.loader.Metadata.{Metadata}
use Rattle.phone_territory.specs.First.{at_start, is_whole_match}
use Rattle.phone_territory.specs.Records.{allows_length, pattern_of}

-- the descriptor is there, and its pattern matches all of the digits
abbrev pub matches_whole : Option Descriptor → List ℕ → Bool
matches_whole d digits = option_map_or (λ d. is_whole_match (pattern_of d) digits) d false

-- besides, it allows their count
abbrev pub is_number_of : Option Descriptor → List ℕ → Bool
is_number_of d digits = option_map_or (λ d. allows_length d (length digits) &&
    is_whole_match (pattern_of d) digits) d false

-- a fixed line may as well be a mobile where the mobile descriptor has the digits too
abbrev pub line_or_mobile : Metadata → List ℕ → «Type» → «Type»
line_or_mobile m digits FixedLine = if is_number_of m.mobile digits then FixedLineOrMobile
    else FixedLine
line_or_mobile m digits kind = kind

-- the kind of digits in a territory: the first whose descriptor has them, where the general one
-- does; else unknown
abbrev pub kind_in : Metadata → List ℕ → «Type»
kind_in m digits =
    if is_number_of m.general digits
    then option_map_or (λ (k : «Type» × Option Descriptor). line_or_mobile m digits k.0)
    (find (λ (k : «Type» × Option Descriptor). is_number_of k.1 digits) (tried_kinds m)) Unknown
    else Unknown

-- a territory has the digits: its leading digits match at their front, or it has no leading digits,
-- and their kind there is known
abbrev pub has_digits : List ℕ → Metadata → Bool
has_digits digits m = option_map_or (λ (pattern : List ℕ). at_start pattern digits) m.leading_digits
    (is_known (kind_in m digits))

-- a sole territory has all digits; of several the first that has them
abbrev pub territory_among : List ℕ → List Metadata → Option Metadata
territory_among digits [] = None
territory_among digits (m ∷ []) = Some m
territory_among digits (m ∷ n ∷ ms) = find (has_digits digits) (m ∷ n ∷ ms)

-- the territory of a calling code that has the digits: the main one is asked first
abbrev pub territory_in : List Metadata → ℕ → List ℕ → Option Metadata
territory_in db code digits = territory_among digits (territories code db)
