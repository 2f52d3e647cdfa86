-- How far the lines of a table were taken.
use Rattle.std.specs.Prelude.{◌≤◌, ℕ, List, [], length, take}
use Rattle.phone_lines.specs.Lines.{AreCut}
use Rattle.phone_prefixes.specs.Spans.{entries_in, IsLoaded}
use Rattle.phone_prefixes.specs.Tables.{AreEntries}
use Rattle.phone_prefixes.specs.declared.node.Node.{Node}
use Rattle.phone_prefixes.specs.declared.span.Span.{Span}

-- so far the lines were taken that end before a place
pub record IsSoFar (bytes : List ℕ) (at : ℕ) (spans : List Span) (nodes : List Node) : Type 0 where
  pub within : at ≤ length bytes
  pub loaded : IsLoaded bytes spans nodes
  pub lines : List (List ℕ)
  pub cut : AreCut (take at bytes) lines []
  pub are : AreEntries lines (entries_in bytes spans)
