-- A machine that serves a pattern text.
use Rattle.std.specs.Prelude.{◌≡◌, ◌<◌, ℕ, nat_le, if◌then◌else◌, List, All, None, option_map}
use Rattle.phone_pattern.specs.First.{first_match, last_group, seen_of}
use Rattle.phone_pattern.specs.declared.pattern.Captured.{Captured}
use Rattle.phone_automaton.specs.Finds.{finds, Searcher}
use Rattle.phone_automaton.specs.declared.machine.Captured as held

-- in each text of ASCII it finds the first match of the pattern text, and it knows the number of
-- its last group
abbrev pub Serves : List ℕ → Searcher → Type 0
Serves pattern machine =
    ((hay : List ℕ) → All (λ x. x < 128) hay →
    option_map seen_of (finds machine hay) ≡ first_match pattern hay)
    × (machine.last ≡ last_group pattern)

-- what a machine captures as a pattern tells it, by the number of its last group: without groups
-- there is no first one
abbrev pub as_captured : ℕ → held.Captured → Captured
as_captured last c = record {
  span = c.span;
  first = if nat_le 1 last then c.first
      else None;
  last = c.last;
}
