-- How a layout parts the digits of a national number into groups. Digits are bytes.
use Rattle.std.specs.Prelude.{ℕ, zero, suc, ◌==◌, not, Bool, if◌then◌else◌, List, [], ◌∷◌}
use Rattle.std.specs.Prelude.{◌++◌, chars, drop, length, Option, None, Some}
use Rattle.std.specs.List.{find}
use Rattle.std.specs.Option.{option_and_then, option_map_or}
use Rattle.phone_chars.specs.Characters.{is_separator}
use Rattle.phone_matches.specs.Runs.{groups}
use Rattle.phone_matches_text.specs.Shapes.{before_end}
use Rattle.phone_plans.specs.CodeLookUps.{first_of, territories}
use Rattle.phone_matches.specs.Prefixes.{fits}
use Rattle.phone_print.specs.Layouts.{layouts_for}
use Rattle.phone_records.specs.declared.loader.Format.{Format}
use Rattle.phone_records.specs.declared.loader.Metadata.{Metadata}
use Rattle.phone_territory.specs.First.{first_span}
use Rattle.phone_territory.specs.Layouts.{laid_by, layout_pattern, layout_template}
use Rattle.phone_values.specs.declared.mode.Mode.TheVariants.{International}

-- digits up to the end of the pattern's first match, which is replaced by the template, and what
-- follows it; none where the pattern matches nowhere, or nothing at the front
abbrev pub laid_first : Format → List ℕ → Option (List ℕ × List ℕ)
laid_first f digits = option_and_then
    (λ (s : ℕ × ℕ). if s.1 == 0 then None else Some
    (before_end (laid_by f (layout_template f) digits) (drop s.1 digits), drop s.1 digits))
    (first_span (layout_pattern f) digits)

-- digits with each match replaced so, at most so many
abbrev pub laid_each : (most : ℕ) → Format → List ℕ → List ℕ
laid_each zero f digits = digits
laid_each (suc most) f digits = option_map_or (λ p. p.0 ++ laid_each most f p.1)
    (laid_first f digits) digits

-- a character of a group: it isn't one that may stand between digits
abbrev pub is_unparted : ℕ → Bool
is_unparted c = not (is_separator c)

-- the groups of a text that is laid out
abbrev pub groups_in : List ℕ → List (List ℕ)
groups_in t = groups is_unparted (chars t)

-- the groups into which a layout parts digits: each match is replaced
abbrev pub groups_by : List ℕ → Format → List (List ℕ)
groups_by digits f = groups_in (laid_each (length digits) f digits)

-- a territory's layouts of numbers that are called from abroad
abbrev pub layouts_abroad : Option Metadata → List Format
layouts_abroad m = option_map_or (λ m. layouts_for m International) m []

-- the groups in which a number is written for calls from abroad: those of the first layout that is
-- that of its digits, else all digits are one
abbrev pub groups_abroad : Option Metadata → List ℕ → List (List ℕ)
groups_abroad m digits = option_map_or (groups_by digits) (find (fits digits) (layouts_abroad m))
    (digits ∷ [])

-- the alternate layouts of a calling code, by a database of such
abbrev pub alternates_of : List Metadata → ℕ → List Format
alternates_of alternates code =
    option_map_or (λ m. m.formats) (first_of (territories code alternates)) []
