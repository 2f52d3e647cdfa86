-- Patterns that are groups one after the other, and the cells of their groups.
use Rattle.std.specs.Prelude.{◌≡◌, ◌<◌, ◌+◌, ◌*◌, ◌-◌, ◌++◌, ℕ, List, [], ◌∷◌, All, Some, length}
use Rattle.std.specs.Prelude.{map, slice_set}
use Rattle.regex_extract.specs.Bounds.{IsMaxLen}
use Rattle.regex_hir.specs.Matches.{IsMinLen}
use Rattle.regex_hir.specs.Re.{Re, Rest, Trace, accept, attempt, group}
use Rattle.regex_nfa.specs.Run.{run}
use Rattle.regex_nfa.specs.declared.nfa.Nfa.{Nfa}
use Rattle.regex_syntax.specs.Grammar.{group_count}
use Rattle.regex_vm.specs.Found.{group_cells}

-- the tree is the group with this number, and no other stands in it
abbrev pub IsGroup : ℕ → Re → Type 0
IsGroup number re = (a : Re) × (re ≡ group number a) × (group_count a ≡ 0)

-- and each of its matches is so long
abbrev pub IsGroupOf : ℕ → Re → ℕ → Type 0
IsGroupOf number re n =
    (a : Re) × (re ≡ group number a) × (group_count a ≡ 0) × IsMinLen a n × IsMaxLen a n

-- the writes of these positions to slots, from slot n on
abbrev pub numbered : ℕ → List ℕ → List (ℕ × ℕ)
numbered n [] = []
numbered n (p ∷ ps) = (n, p) ∷ numbered (n + 1) ps

-- What follows was asked at the position p, after these positions were written to the slots of the
-- groups.
pub record Reached (p : ℕ) (ps : List ℕ) (k : Rest) (t : Trace) : Type 0 where
  pub rest : Trace
  pub gave : k p ≡ Some rest
  pub same_end : t.end ≡ rest.end
  pub wrote : t.writes ≡ numbered 2 ps ++ rest.writes

-- from the front of a text the tree leads to the position p alone, and writes these positions
abbrev pub LeadsTo : Re → ℕ → List ℕ → Type 0
LeadsTo re p ps = (hay : List ℕ) → All (λ x. x < 256) hay → (k : Rest) (t : Trace) →
    attempt hay re k 0 ≡ Some t → Reached p ps k t

-- the cells of so many groups one after the other, and of the place where the next one begins
pub record AreBefore (cells : List ℕ) (count : ℕ) (re : Re) : Type 0 where
  pub at : ℕ
  pub ps : List ℕ
  pub are : cells ≡ map (λ p. p + 1) ps ++ (at + 1) ∷ []
  pub two_each : length ps ≡ 2 * count
  pub leads : LeadsTo re at ps

-- the cells with the end of a match put in: the last three are its place and those of a group that
-- there isn't
abbrev pub with_end : List ℕ → ℕ → List ℕ
with_end cells end = slice_set cells (length cells - 3) (end + 1)

-- where a match begins at the front of a text, these cells with its end put in are its groups
abbrev pub AreAtFront : (List ℕ → Rest) → List ℕ → Type 0
AreAtFront found_at cells = (hay : List ℕ) → All (λ x. x < 256) hay → (t : Trace) →
    found_at hay 0 ≡ Some t →
    with_end cells t.end ≡ group_cells (record { start = 0; trace = t }) (length cells)

-- of the matches of a tree
abbrev pub AreFrontCells : Re → List ℕ → Type 0
AreFrontCells re = AreAtFront (λ hay. attempt hay re accept)

-- of those of an automaton
abbrev pub AreFrontCellsFor : Nfa → List ℕ → Type 0
AreFrontCellsFor nfa = AreAtFront (λ hay. run nfa hay (length hay) nfa.start)
