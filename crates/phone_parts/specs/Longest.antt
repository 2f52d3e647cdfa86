-- The longest end of a text that is of some kind: what makes the search for an extension linear.
use Rattle.std.specs.Prelude.{◌≡◌, ℕ, ◌≤◌, ◌↔◌, List, ◌++◌, length, chars}
use Rattle.std.specs.Str.{IsUtf8}

-- `left` is the text without its longest end of this kind
pub record IsWithoutLongest (Kind : List ℕ → Type 0) (text left : List ℕ) : Type 0 where
  pub end : List ℕ
  pub whole : text ≡ left ++ end
  pub kind : Kind end
  pub longest : (before other : List ℕ) → text ≡ before ++ other → Kind other →
      length left ≤ length before

-- an end of the text is of this kind exactly if it has at most n bytes; text and end are told by
-- their bytes
abbrev pub AreEndsUpTo : (List ℕ → Type 0) → ℕ → List ℕ → Type 0
AreEndsUpTo Kind n text = (before end : List ℕ) → text ≡ before ++ end → IsUtf8 end →
    Kind (chars end) ↔ (length end ≤ n)

-- no end of the text that is of this kind has more than n bytes
abbrev pub AreEndsWithin : (List ℕ → Type 0) → ℕ → List ℕ → Type 0
AreEndsWithin Kind n text = (before end : List ℕ) → text ≡ before ++ end → IsUtf8 end →
    Kind (chars end) → length end ≤ n
