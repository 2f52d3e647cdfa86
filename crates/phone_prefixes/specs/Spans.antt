-- The entries of a table, by where they stand in its bytes, and by their marks in the trie.
use Rattle.std.specs.Prelude.{◌≡◌, ◌<◌, ◌≤◌, ◌+◌, ℕ, true, List, length, map, take, drop}
use Rattle.std.specs.Prelude.{slice_index_or, slice_range, Some}
use Rattle.std.specs.Str.{IsUtf8}
use Rattle.phone_prefixes.specs.Marks.{Marks}
use Rattle.phone_prefixes.specs.Tables.{Entry, is_prefix}
use Rattle.phone_prefixes.specs.Nodes.{mark_of, IsTree}
use Rattle.phone_prefixes.specs.declared.node.Node.{Node}
use Rattle.phone_prefixes.specs.declared.span.Span.{Span}

-- a line parted at a place: what stands before it, and what stands after it
abbrev pub parted_at : List ℕ → ℕ → Entry
parted_at line tab = record { prefix = take tab line; text = drop (tab + 1) line }

-- the entry that stands there
abbrev pub entry_in : List ℕ → Span → Entry
entry_in bytes span = record {
  prefix = slice_range bytes span.start span.tab;
  text = slice_range bytes (span.tab + 1) span.end;
}

-- the entries that stand there
abbrev pub entries_in : List ℕ → List Span → List Entry
entries_in bytes spans = map (entry_in bytes) spans

-- an entry stands there
pub record IsSpan (bytes : List ℕ) (span : Span) : Type 0 where
  pub order : (span.start ≤ span.tab) × (span.tab < span.end) × (span.end ≤ length bytes)
  pub prefix : is_prefix (entry_in bytes span).prefix ≡ true
  pub text : IsUtf8 (entry_in bytes span).text

-- the mark of a prefix is its entry's place in the list of entries, and nothing else has a mark
pub record IsIndexed (bytes : List ℕ) (spans : List Span) (marks : Marks) : Type 0 where
  pub stand : (k : ℕ) (d : Span) → k < length spans → IsSpan bytes (slice_index_or spans k d)
  pub marked : (k : ℕ) (d : Span) → k < length spans →
      marks (entry_in bytes (slice_index_or spans k d)).prefix ≡ Some k
  pub named : (text : List ℕ) (k : ℕ) (d : Span) → marks text ≡ Some k → (k < length spans) ×
      ((entry_in bytes (slice_index_or spans k d)).prefix ≡ text)

-- the nodes are a tree that has these marks
pub record IsLoaded (bytes : List ℕ) (spans : List Span) (nodes : List Node) : Type 0 where
  pub tree : IsTree nodes
  pub indexed : IsIndexed bytes spans (mark_of nodes)
