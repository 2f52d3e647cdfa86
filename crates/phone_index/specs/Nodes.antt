-- The nodes of the trie.
use Rattle.std.specs.Prelude.{◌≡◌, ◌+◌, ◌*◌, ◌/◌, ◌^◌, ◌<◌, ◌≤◌, ◌==◌, ◌||◌, ℕ, Bool, true, false}
use Rattle.std.specs.Prelude.{not, List, length, replicate, map, filter, slice_index_or, Option}
use Rattle.std.specs.Prelude.{None, Some, if◌then◌else◌}
use Rattle.std.specs.List.{list_any}
use Rattle.phone_index.specs.declared.node.Node.{Node}

-- the codes that nodes list, in the order of the nodes
abbrev pub listed_by : List Node → List ℕ
listed_by nodes = map (λ n. n.number) (filter (λ n. n.listed) nodes)

-- a node from which no digit leads
abbrev pub bare : ℕ → Node
bare number = record { number = number; listed = false; children = replicate 10 0 }

-- the node at a place, and one of number 0 past the last
abbrev pub node_at : List Node → ℕ → Node
node_at nodes place = slice_index_or nodes place (bare 0)

-- where a digit leads from a node, and 0 where it leads nowhere
abbrev pub child_of : Node → ℕ → ℕ
child_of node digit = slice_index_or node.children digit 0

-- the node's number, if it is a code
abbrev pub code_of : Node → Option ℕ
code_of node = if node.listed then Some node.number else None

-- whether a digit leads from the node
abbrev pub has_child : Node → Bool
has_child node = list_any (λ place. not (place == 0)) node.children

-- the node is no code's, or no digit leads from it, or it is the root
abbrev pub is_end : Node → Bool
is_end node = node.number == 0 || not node.listed || not (has_child node)

-- the digits of the first number are in front of those of the second, or they are the same number
pub data IsFront : ℕ → ℕ → Type 0 where
  same : {n : ℕ} → IsFront n n
  longer : {a m n : ℕ} → m ≡ n / 10 → IsFront a m → IsFront a n

-- a node of this number is there
abbrev pub HasNode : List Node → ℕ → Type 0
HasNode nodes number = (k : ℕ) × (k < length nodes) × ((node_at nodes k).number ≡ number)

-- a node of this number is there that lists it
abbrev pub Lists : List Node → ℕ → Type 0
Lists nodes number = (k : ℕ) × (k < length nodes) × ((node_at nodes k).listed ≡ true) ×
    ((node_at nodes k).number ≡ number)

-- a digit leads from a node to the one whose number ends in it after the node's number, if there is
-- one; no number has two nodes, and where it has one so has it without its last digit
pub record IsTree (nodes : List Node) : Type 0 where
  pub root : (0 < length nodes) × ((node_at nodes 0).number ≡ 0)
  pub numbers : (k : ℕ) → 0 < k → k < length nodes →
      (0 < (node_at nodes k).number) × ((node_at nodes k).number < 2 ^ 16)
  pub apart : (j k : ℕ) → j < length nodes → k < length nodes →
      (node_at nodes j).number ≡ (node_at nodes k).number → j ≡ k
  pub widths : (k : ℕ) → k < length nodes → length (node_at nodes k).children ≡ 10
  pub leads : (k digit : ℕ) → k < length nodes → digit < 10 → 0 < child_of (node_at nodes k) digit →
      (child_of (node_at nodes k) digit < length nodes) ×
      ((node_at nodes (child_of (node_at nodes k) digit)).number ≡
      10 * (node_at nodes k).number + digit)
  pub ends : (k digit j : ℕ) → k < length nodes → digit < 10 →
      child_of (node_at nodes k) digit ≡ 0 → 0 < j → j < length nodes →
      (node_at nodes j).number ≡ 10 * (node_at nodes k).number + digit → ⊥
  pub fronts : (k : ℕ) → k < length nodes → HasNode nodes ((node_at nodes k).number / 10)

-- such a tree, in which each node but the root is on the way to a code
pub record IsTrie (nodes : List Node) : Type 0 where
  pub tree : IsTree nodes
  pub on_way : (k : ℕ) → 0 < k → k < length nodes →
      (code : ℕ) × Lists nodes code × IsFront (node_at nodes k).number code

-- the nodes that were there still have their numbers and list what they did, and the new ones list
-- nothing and are on the way to a number
pub record IsGrown (old new : List Node) (number : ℕ) : Type 0 where
  pub longer : length old ≤ length new
  pub kept : (k : ℕ) → k < length old → ((node_at new k).number ≡ (node_at old k).number) ×
      ((node_at new k).listed ≡ (node_at old k).listed)
  pub added : (k : ℕ) → length old ≤ k → k < length new →
      ((node_at new k).listed ≡ false) × IsFront (node_at new k).number number

-- the tree has a number's node at a place, and nothing that it had not but what is on the way there
pub record IsPlaceOf (old new : List Node) (number place : ℕ) : Type 0 where
  pub tree : IsTree new
  pub inside : place < length new
  pub is : (node_at new place).number ≡ number
  pub grown : IsGrown old new number
