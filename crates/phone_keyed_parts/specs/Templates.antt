-- Templates that show a number's beginning: a layout's text of nines, in which digits take the
-- places of nines.
use Rattle.std.specs.Prelude.{ℕ, ◌-◌, ◌==◌, ◌&&◌, ◌||◌, not, nat_le, Bool}
use Rattle.std.specs.Prelude.{if◌then◌else◌, List, [], ◌∷◌, ◌++◌, codes, encode_utf8, length, take}
use Rattle.std.specs.Prelude.{Option, None, Some}
use Rattle.std.specs.Option.{option_and_then}
use Rattle.phone_chars.specs.Characters.{is_digit, is_separator}
use Rattle.phone_records.specs.declared.loader.Format.{Format}
use Rattle.phone_pattern.specs.First.{first_span}
use Rattle.phone_territory.specs.Layouts.{laid_by, layout_pattern, layout_template}

-- a character names a group that may stand here: 1 comes first
abbrev pub is_group : Bool → ℕ → Bool
is_group seen y = if seen then is_digit y else (y == 49)

-- a character may stand in a simple template: behind a dollar sign the name of a group, else a
-- dollar sign or a mark
abbrev pub may_stand : Bool → Bool → ℕ → Bool
may_stand is_open seen c = if is_open then is_group seen c else ((c == 36) || is_separator c)

-- a dollar sign that names a group begins here
abbrev pub opens : Bool → ℕ → Bool
opens is_open c = not is_open && (c == 36)

-- a layout's template is of marks and groups alone, its first group comes first; behind a dollar
-- sign, or not, and behind a group, or not
abbrev pub is_simple : Bool → Bool → List ℕ → Bool
is_simple is_open seen [] = seen && not is_open
is_simple is_open seen (c ∷ cs) =
    may_stand is_open seen c && is_simple (opens is_open c) (seen || is_open) cs

-- fifteen nines, the digits of a longest number
abbrev pub nines : List ℕ
nines = codes "999999999999999"

-- what a layout prints of as many nines as its pattern matches; none where these are fewer than
-- the digits
abbrev pub template_of : List ℕ → Format → Option (List ℕ)
template_of digits f = option_and_then (λ (s : ℕ × ℕ).
    if nat_le (length digits) (s.1 - s.0)
    then Some (laid_by f (layout_template f) (take (s.1 - s.0) nines)) else None)
    (first_span (layout_pattern f) nines)

-- a template's beginning behind a text: up to the last digit, each in the place of a nine; none
-- where nines are lacking. Template and digits are characters
abbrev pub begun : List ℕ → List ℕ → List ℕ → Option (List ℕ)
begun text cs [] = Some text
begun text [] (d ∷ ds) = None
begun text (c ∷ cs) (d ∷ ds) =
    if c == 57 then begun (text ++ encode_utf8 d) cs ds
    else begun (text ++ encode_utf8 c) cs (d ∷ ds)
