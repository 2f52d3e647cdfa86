-- What an automaton finds in a text, and what is asked of it.
use Rattle.std.specs.Prelude.{◌≡◌, ◌<◌, ◌-◌, ◌*◌, ◌==◌, ℕ, Bool, false, List, length, Option, Some}
use Rattle.std.specs.Prelude.{None, All, if◌then◌else◌, slice_index}
use Rattle.std.specs.Option.{option_and_then, option_map_or}
use Rattle.regex.specs.Writes.{both, group_of}
use Rattle.regex_hir.specs.Find.{Match, find_str}
use Rattle.regex_hir.specs.Re.{Re}
use Rattle.regex_nfa.specs.declared.nfa.Nfa.{Nfa}
use Rattle.regex_vm.specs.Found.{first_match, span}
use Rattle.phone_automaton.specs.declared.machine.Captured.{Captured}

-- an automaton, and the number of the last group, 0 where there is none
pub record Searcher : Type 0 where
  pub nfa : Nfa
  pub last : ℕ

-- the first match of an automaton in a text
abbrev pub found_by : Nfa → List ℕ → Option Match
found_by nfa hay = first_match nfa hay (length hay) 0 (length hay)

-- the first match in a text
abbrev pub finds : Searcher → List ℕ → Option Match
finds s = found_by s.nfa

-- in each text of ASCII the tree's first match is found
abbrev pub FindsInAscii : Re → (List ℕ → Option Match) → Type 0
FindsInAscii re found = (hay : List ℕ) → All (λ x. x < 128) hay → found hay ≡ find_str re hay 0

-- there is a match, and it begins at the first byte
abbrev pub at_front : Option Match → Bool
at_front found = option_map_or (λ m. m.start == 0) found false

-- where a match that begins at the first byte ends
abbrev pub front_end : Option Match → Option ℕ
front_end found = option_and_then (λ (m : Match). if m.start == 0 then Some m.trace.end else None)
    found

-- what group n of a match spans; group 0 is the match
abbrev pub group : Match → ℕ → Option (ℕ × ℕ)
group m n = if n == 0 then Some (span m) else group_of m n

-- a match's span, its group 1 and its last group
abbrev pub captured : ℕ → Match → Captured
captured last m = record { span = span m; first = group m 1; last = group m last }

-- the position that a cell holds: a position plus one, or 0 for none
abbrev pub position : ℕ → Option ℕ
position c = if c == 0 then None else Some (c - 1)

-- what group n spans, by the span of the match and the cells from group 1 on
abbrev pub group_at : ℕ × ℕ → List ℕ → ℕ → Option (ℕ × ℕ)
group_at whole cells n =
    if n == 0 then Some whole
    else both (position (slice_index cells (2 * n - 2))) (position (slice_index cells (2 * n - 1)))
