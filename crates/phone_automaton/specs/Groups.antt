-- What searches with groups find.
use Rattle.std.specs.Prelude.{◌≡◌, ℕ, List, Option, IfSome, length, option_map}
use Rattle.std.specs.Option.{ForSome}
use Rattle.regex_dfa.specs.declared.dfa.Dfa.{Dfa}
use Rattle.regex_nfa.specs.declared.nfa.Nfa.{Nfa}
use Rattle.regex_tagged.specs.Valid.{IsFor}
use Rattle.regex_vm.specs.Found.{group_cells, span}
use Rattle.phone_automaton.specs.Finds.{found_by, group_at}
use Rattle.phone_automaton.specs.declared.groups.Groups.{Groups}
use Rattle.phone_automaton.specs.declared.machine.Captured.{Captured}

-- the first match of an automaton in a text spans this, and the cells are its groups
abbrev pub IsFoundIn : Nfa → List ℕ → List ℕ → Option (ℕ × ℕ) → Type 0
IsFoundIn nfa hay cells found =
    (found ≡ option_map span (found_by nfa hay)) ×
    IfSome (found_by nfa hay) (λ m. cells ≡ group_cells m (length cells))

-- the steps are of this automaton
abbrev pub AreGroupsFor : Groups → Dfa → Type 0
AreGroupsFor g dfa = ForSome g.tagged (λ t. IsFor t.value dfa)

-- a match's span, its group 1 and its last group, by its cells
abbrev pub captured_at : ℕ → List ℕ → ℕ × ℕ → Captured
captured_at last cells whole = record {
  span = whole;
  first = group_at whole cells 1;
  last = group_at whole cells last;
}
