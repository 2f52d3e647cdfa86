-- Tables of the steps over digits, and what they say of a text of digits.
use Rattle.std.specs.Prelude.{◌≡◌, ◌≤◌, ◌<◌, ◌+◌, ◌-◌, ◌/◌, ◌%◌, ◌==◌, ℕ, Bool, List}
use Rattle.std.specs.Prelude.{[], ◌∷◌, length, Option, Some, None, if◌then◌else◌}
use Rattle.std.specs.Prelude.{slice_index, All}
use Rattle.std.specs.Option.{option_or}
use Rattle.regex_hir.specs.Find.{Match}
use Rattle.phone_automaton.specs.Finds.{front_end}

-- a text of ASCII's digits alone
abbrev pub AreDigits : List ℕ → Type 0
AreDigits text = All (λ b. (48 ≤ b) × (b < 58)) text

-- the place of the first cell of the row that a cell leads to
abbrev pub place_of : ℕ → ℕ
place_of cell = cell / 2

-- a match ends where the cell's step begins
abbrev pub ends_here : ℕ → Bool
ends_here cell = cell % 2 == 1

-- a row has a cell for each digit, and in column 10 one for the end of the text
abbrev pub cell_at : List ℕ → ℕ → ℕ → ℕ
cell_at cells place column = slice_index cells (place + column)

-- a match that ends later is preferred to one that ends here
abbrev pub or_here : ℕ → ℕ → Option ℕ → Option ℕ
or_here cell at later = option_or later (if ends_here cell then Some at else None)

-- where the match ends that goes on from the row at a place, at a position, before these digits;
-- from the first row, which has no thread, none does
abbrev pub end_by : List ℕ → ℕ → ℕ → List ℕ → Option ℕ
end_by cells place at [] =
    if place == 0 then None else or_here (cell_at cells place 10) at None
end_by cells place at (b ∷ bs) =
    if place == 0 then None
    else or_here (cell_at cells place (b - 48)) at
    (end_by cells (place_of (cell_at cells place (b - 48))) (at + 1) bs)

-- where the match ends that begins at the front of a text of digits
abbrev pub end_of_digits : List ℕ → List ℕ → Option ℕ
end_of_digits cells text = end_by cells 11 0 text

-- each cell leads to a row, and there are two rows at least
pub record HasRows (cells : List ℕ) : Type 0 where
  pub two : 22 ≤ length cells
  pub inside : (k : ℕ) → k < length cells → place_of (slice_index cells k) + 11 ≤ length cells

-- a table tells of each text of digits where the match at its front ends that is found there
abbrev pub TellsFront : (List ℕ → Option Match) → List ℕ → Type 0
TellsFront found cells =
    (hay : List ℕ) → AreDigits hay → end_of_digits cells hay ≡ front_end (found hay)
