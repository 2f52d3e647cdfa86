-- What is made of pattern texts for their searches.
use Rattle.std.specs.Prelude.{◌≡◌, ◌<◌, ℕ, Bool, false, List, length, All, option_map}
use Rattle.std.specs.Prelude.{Option, IfSome}
use Rattle.phone_automaton.specs.Finds.{Searcher}
use Rattle.phone_automaton.specs.Fronts.{may_begin}
use Rattle.phone_automaton.specs.Lengths.{Bounds, IsTooLong, IsTooShort}
use Rattle.phone_automaton.specs.Tables.{FrontCells, Tells}
use Rattle.phone_pattern.specs.First.{at_start, first_match, is_whole_match, names_in, seen_of}
use Rattle.phone_pattern.specs.First.{IsPattern}
use Rattle.phone_pattern.specs.Machines.{Serves}
use Rattle.regex_hir.specs.Find.{find_str}
use Rattle.regex_hir.specs.Re.{Re}

-- in each text of ASCII the tree's first match is that of the pattern text
abbrev pub FindsAs : List ℕ → Re → Type 0
FindsAs pattern re = (hay : List ℕ) → All (λ b. b < 128) hay →
    option_map seen_of (find_str re hay 0) ≡ first_match pattern hay

-- a text is a pattern, finds as the tree, and has so many groups, the match itself included
abbrev pub IsReadAs : List ℕ → Re → ℕ → Type 0
IsReadAs pattern re groups =
    IsPattern pattern × FindsAs pattern re × (groups ≡ length (names_in pattern))

-- a table tells of a tree that finds as the pattern text
abbrev pub TellsOf : List ℕ → FrontCells → Type 0
TellsOf pattern t = (re : Re) × FindsAs pattern re × Tells re t

-- the bytes with which matches begin, their lengths, and what finds them
pub record Shape : Type 0 where
  pub fronts : List Bool
  pub lengths : Bounds
  pub searcher : Option Searcher

-- a text that begins with another byte than these has no first match of the pattern text at its
-- front
abbrev pub AreFronts : List ℕ → List Bool → Type 0
AreFronts pattern fronts = (hay : List ℕ) → All (λ b. b < 256) hay → may_begin fronts hay ≡ false →
    at_start pattern hay ≡ false

-- nor has one that is too short, and one that is too long isn't the first match
abbrev pub AreLengths : List ℕ → Bounds → Type 0
AreLengths pattern lengths = (hay : List ℕ) → All (λ b. b < 256) hay →
    (IsTooShort lengths (length hay) → at_start pattern hay ≡ false) ×
    (IsTooLong lengths hay → is_whole_match pattern hay ≡ false)

-- both hold of the matches of the pattern text, and what finds them serves it, if it is there
abbrev pub IsShape : List ℕ → Shape → Type 0
IsShape pattern s =
    AreFronts pattern s.fronts × AreLengths pattern s.lengths × IfSome s.searcher (Serves pattern)
