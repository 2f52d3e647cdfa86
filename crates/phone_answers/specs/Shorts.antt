-- Short numbers of a region, and their answers.
use Rattle.std.specs.Prelude.{ℕ, ◌&&◌, ◌||◌, not, Bool, if◌then◌else◌, List, chars}
use Rattle.std.specs.Prelude.{Option, None, Some, option_map}
use Rattle.std.specs.Char.{is_whitespace}
use Rattle.std.specs.List.{list_all}
use Rattle.phone_chars.specs.Characters.{is_alpha, is_nd, is_separator}
use Rattle.phone_values.specs.declared.country.Id.{Id}
use Rattle.phone_csv.specs.Formats.{Record}
use Rattle.phone_records.specs.declared.loader.Metadata.{Metadata}
use Rattle.phone_short.specs.Regions.{short_kind}
use Rattle.phone_short.specs.declared.kind.ShortKind.{ShortKind}
use Rattle.phone_answers.specs.Fields.{answer_by, of_short}

-- what may stand in the field of a short number: digits of any script, white space, and what parts
-- the groups of a number, but for its letter `x`
abbrev pub may_stand : ℕ → Bool
may_stand c = is_nd c || is_whitespace c || (is_separator c && not (is_alpha c))

-- a text is nothing but a number
abbrev pub is_number_alone : List ℕ → Bool
is_number_alone text = list_all may_stand (chars text)

-- the region of a hint, and what kind of short number a text is there that is nothing but a number,
-- by a database of these; none without a database or a hint
abbrev pub short_in : Option (List Metadata) → Option Id → List ℕ → Option (Id × ShortKind)
short_in None hint text = None
short_in (Some db) None text = None
short_in (Some db) (Some region) text = if is_number_alone text
    then option_map (λ kind. (region, kind)) (short_kind db region (chars text)) else None

-- the answer to a short number
abbrev pub short_answer : Id → ShortKind → Record
short_answer region kind = answer_by (of_short region kind)
