-- How a formatting rule changes a template: after the original's `formatter`.
use Rattle.std.specs.Prelude.{ℕ, ◌-◌, ◌==◌, ◌&&◌, if◌then◌else◌, List, [], ◌∷◌, ◌++◌, codes}
use Rattle.std.specs.Prelude.{take, drop, Option, None, Some}
use Rattle.phone_pattern.specs.First.{Seen, first_match, names_in, with_first_replaced}

-- the pattern of the first group that a template names: a `$` and a digit
abbrev pub first_group_pattern : List ℕ
first_group_pattern = codes "(\\$\\d)"

-- each `$` with these two letters after it becomes the text, from the left
abbrev pub with_mark : ℕ → ℕ → List ℕ → List ℕ → List ℕ
with_mark a b text [] = []
with_mark a b text (x ∷ []) = x ∷ []
with_mark a b text (x ∷ y ∷ []) = x ∷ y ∷ []
with_mark a b text (x ∷ y ∷ z ∷ rest) =
    if (x == 36) && ((y == a) && (z == b)) then text ++ with_mark a b text rest
    else x ∷ with_mark a b text (y ∷ z ∷ rest)

-- a rule with its marks filled: $NP by the national prefix, $FG by the template's first group as a
-- literal, $CC by the carrier
abbrev pub filled_rule : List ℕ → List ℕ → List ℕ → List ℕ → List ℕ
filled_rule rule prefix group carrier = with_mark 67 67 carrier
    (with_mark 70 71 (36 ∷ group) (with_mark 78 80 prefix rule))

-- the template with this match, of its first group, written by the rule
abbrev pub ruled_at : List ℕ → List ℕ → List ℕ → List ℕ → Option Seen → List ℕ
ruled_at template rule prefix carrier None = template
ruled_at template rule prefix carrier (Some s) =
    with_first_replaced (names_in first_group_pattern)
    (filled_rule rule prefix (take (s.1 - s.0) (drop s.0 template)) carrier) template (Some s)

-- the template with its first group written by the rule; a template without a group stays
abbrev pub ruled_template : List ℕ → List ℕ → List ℕ → List ℕ → List ℕ
ruled_template template rule prefix carrier = ruled_at template rule prefix carrier
    (first_match first_group_pattern template)
