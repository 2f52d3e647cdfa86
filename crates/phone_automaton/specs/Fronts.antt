-- The bytes with which matches of a pattern begin.
use Rattle.std.specs.Prelude.{◌<◌, ℕ, Bool, true, false, List, All, IfSome, slice_get}
use Rattle.std.specs.Prelude.{slice_index_or}
use Rattle.std.specs.Option.{option_map_or}
use Rattle.regex_extract.specs.Frames.{Has}
use Rattle.regex_hir.specs.Matches.{Matches}
use Rattle.regex_hir.specs.Re.{Re}

-- where a match begins in bytes, one of the set stands, or they end
abbrev pub BeginsIn : List Bool → Re → Type 0
BeginsIn set re = (hay : List ℕ) → All (λ b. b < 256) hay → (i j : ℕ) → Matches hay re i j →
    IfSome (slice_get hay i) (Has set)

-- a text is empty, or its first byte is in the set
abbrev pub may_begin : List Bool → List ℕ → Bool
may_begin set hay = option_map_or (λ b. slice_index_or set b false) (slice_get hay 0) true
