-- How a number was dialled: by a plus sign, an international prefix, or neither. After the
-- original's module `parser/helper`.
use Rattle.std.specs.Prelude.{ℕ, ◌==◌, ◌&&◌, not, Bool, true, false, if◌then◌else◌, List}
use Rattle.std.specs.Prelude.{drop, Option, None, Some, option_map, unwrap_or}
use Rattle.std.specs.Borrow.{Bor}
use Rattle.std.specs.List.{list_all}
use Rattle.std.specs.Option.{option_and_then, option_map_or}
use Rattle.regex.specs.Patterns.{find_str, span}
use Rattle.regex.specs.Strings.{regex_pattern}
use Rattle.regex.specs.declared.string.regex.Regex.{Regex}
use Rattle.phone_chars.specs.Characters.{is_digit, is_plus}
use Rattle.phone_chars.specs.Cuts.{after_front}
use Rattle.phone_chars.specs.Norm.{norm}
use Rattle.phone_values.specs.declared.country.Source.{Source}
use Rattle.phone_values.specs.declared.country.Source.TheVariants.{Plus, Idd, Default}
use Rattle.phone_territory.specs.First.{first_span}
use Rattle.phone_parts.specs.Texts.{begins}

-- how a number was dialled: what tells its calling code, and its digits: those after a prefix from
-- the reader, those from the code on, or all
pub record Dialled : Type 0 where
  pub source : Source
  pub digits : List ℕ

-- what follows an international prefix: its first match is at the front of the digits, and no 0
-- follows it
abbrev pub after_match : List ℕ → Option (ℕ × ℕ) → Option (List ℕ)
after_match digits None = None
after_match digits (Some (start, end)) =
    if (start == 0) && not (begins (λ d. d == 48) (drop end digits)) then Some (drop end digits)
    else None

-- where the first match ends, if it is at the front
abbrev pub front_of : Option (ℕ × ℕ) → Option ℕ
front_of found = option_and_then (λ (s : ℕ × ℕ). if s.0 == 0 then Some s.1 else None) found

-- a plus sign tells an international number; else an international prefix does; else the hint
-- counts
abbrev pub source_of : Bool → Option (List ℕ) → Source
source_of true after = Plus
source_of false (Some _) = Idd
source_of false None = Default

-- the digits of a national part, its leading plus signs dropped
abbrev pub unsigned : List ℕ → List ℕ
unsigned n = norm (after_front is_plus n)

-- how a national part n is dialled: with a prefix from the reader as after a plus sign; else by its
-- leading plus signs and the international prefix, whose first match `found` gives
abbrev pub dialled : (List ℕ → Option (ℕ × ℕ)) → List ℕ → Option (List ℕ) → Dialled
dialled found n (Some p) = record { source = Plus; digits = norm n }
dialled found n None =
    let after = after_match (unsigned n) (found (unsigned n)) in
    record { source = source_of (begins is_plus n) after; digits = unwrap_or after (unsigned n) }

-- a number's parts are ASCII digits as they stand, but for the plus signs before a national part
-- without a reader's prefix
abbrev pub is_bare : List ℕ → Option (List ℕ) → Option (List ℕ) → Bool
is_bare n (Some p) e = list_all is_digit n &&
    (list_all is_digit p && option_map_or (list_all is_digit) e true)
is_bare n None e = list_all is_digit (after_front is_plus n) &&
    option_map_or (list_all is_digit) e true

-- the same, but for plus signs before the national part, whether there is a reader's prefix or not
abbrev pub is_plain : List ℕ → Option (List ℕ) → Option (List ℕ) → Bool
is_plain n p e = list_all is_digit (after_front is_plus n) &&
    (option_map_or (list_all is_digit) p true && option_map_or (list_all is_digit) e true)

-- the first match of a compiled pattern; without a pattern there is none
abbrev pub found_by : Option (Bor Regex) → List ℕ → Option (ℕ × ℕ)
found_by None digits = None
found_by (Some re) digits = option_map span (find_str (regex_pattern re.now) digits 0)

-- the first match of a pattern's text; without a pattern there is none
abbrev pub found_in : Option (List ℕ) → List ℕ → Option (ℕ × ℕ)
found_in pattern digits = option_and_then (λ (p : List ℕ). first_span p digits) pattern
