-- Marks of texts, and which of a text's fronts has one.
use Rattle.std.specs.Prelude.{◌≡◌, ◌≤◌, ◌<◌, ℕ, List, ◌++◌, length, Option, Some, None}

-- the mark that a text has, if it has one
abbrev pub Marks : Type 0
Marks = List ℕ → Option ℕ

-- the text has this mark, and each other text the one that it had
pub record IsMarked (old new : Marks) (text : List ℕ) (mark : ℕ) : Type 0 where
  pub has : new text ≡ Some mark
  pub others : (other : List ℕ) → (other ≡ text → ⊥) → new other ≡ old other

-- this is a front of the text: it begins it, or is all of it
abbrev pub Begins : List ℕ → List ℕ → Type 0
Begins front text = (rest : List ℕ) × (text ≡ front ++ rest)

-- no front of at most n bytes has a mark
abbrev pub MarksNone : Marks → List ℕ → ℕ → Type 0
MarksNone marks text n = (front : List ℕ) → Begins front text → length front ≤ n →
    marks front ≡ None

-- of the fronts of at most n bytes that have a mark the longest has this one
pub record IsLongestMark (marks : Marks) (text : List ℕ) (n mark : ℕ) : Type 0 where
  pub front : List ℕ
  pub begins : Begins front text
  pub short : length front ≤ n
  pub marked : marks front ≡ Some mark
  pub longest : (other : List ℕ) → Begins other text → length other ≤ n →
      length front < length other → marks other ≡ None
