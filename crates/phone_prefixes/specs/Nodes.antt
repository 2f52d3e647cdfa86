-- The nodes of the trie, and what stands after the digits of a text.
use Rattle.std.specs.Prelude.{◌≡◌, ◌-◌, ◌<◌, ◌==◌, ℕ, List, [], ◌∷◌, length, replicate, reverse}
use Rattle.std.specs.Prelude.{Option, Some, None, if◌then◌else◌, slice_index, slice_index_or}
use Rattle.std.specs.Char.{is_ascii_digit}
use Rattle.std.specs.Option.{option_and_then}
use Rattle.phone_prefixes.specs.Marks.{Marks}
use Rattle.phone_prefixes.specs.declared.node.Node.{Node}

-- a node from which no digit leads, and that has no mark
abbrev pub bare : Node
bare = record { children = replicate 10 0; marks = replicate 10 0 }

-- the node at a place, and a bare one past the last
abbrev pub node_at : List Node → ℕ → Node
node_at nodes place = slice_index_or nodes place bare

-- a place, where 0 stands for none
abbrev pub some_place : ℕ → Option ℕ
some_place n = if n == 0 then None else Some n

-- a mark, which is written as one more, where 0 stands for none
abbrev pub some_mark : ℕ → Option ℕ
some_mark n = if n == 0 then None else Some (n - 1)

-- the place of the node to which a byte leads from one; none where it is no digit
abbrev pub child_at : List Node → ℕ → ℕ → Option ℕ
child_at nodes place byte = if is_ascii_digit byte
    then some_place (slice_index (node_at nodes place).children (byte - 48)) else None

-- the mark that a node has for a byte; none where it is no digit
abbrev pub mark_at : List Node → ℕ → ℕ → Option ℕ
mark_at nodes place byte = if is_ascii_digit byte
    then some_mark (slice_index (node_at nodes place).marks (byte - 48)) else None

-- the place of the node after a text, whose bytes stand here from the last to the first
abbrev pub walk : List Node → List ℕ → Option ℕ
walk nodes [] = Some 0
walk nodes (byte ∷ bytes) = option_and_then (λ place. child_at nodes place byte) (walk nodes bytes)

-- the mark of a text, whose bytes stand here from the last to the first
abbrev pub mark_back : List Node → List ℕ → Option ℕ
mark_back nodes [] = None
mark_back nodes (byte ∷ bytes) =
    option_and_then (λ place. mark_at nodes place byte) (walk nodes bytes)

-- the mark of a text
abbrev pub mark_of : List Node → Marks
mark_of nodes text = mark_back nodes (reverse text)

-- each place after a text is a node's, and no two texts lead to one
pub record IsTree (nodes : List Node) : Type 0 where
  pub root : 0 < length nodes
  pub inside : (text : List ℕ) (place : ℕ) → walk nodes text ≡ Some place → place < length nodes
  pub apart : (a b : List ℕ) (place : ℕ) → walk nodes a ≡ Some place → walk nodes b ≡ Some place →
      a ≡ b
  pub widths : (place : ℕ) → place < length nodes →
      (length (node_at nodes place).children ≡ 10) × (length (node_at nodes place).marks ≡ 10)

-- a tree in which each text leads where it did, and has the mark that it had
pub record IsGrown (old new : List Node) : Type 0 where
  pub tree : IsTree new
  pub kept : (text : List ℕ) (place : ℕ) → walk old text ≡ Some place → walk new text ≡ Some place
  pub marks : (text : List ℕ) → mark_back new text ≡ mark_back old text
