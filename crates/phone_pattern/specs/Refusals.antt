-- Why a list of texts isn't one of patterns.
use Rattle.std.specs.Prelude.{◌≡◌, ℕ, List, ◌∷◌, ◌++◌, string_bytes}
use Rattle.std.specs.List.{AllByRecursion}
use Rattle.phone_pattern.specs.First.{IsPattern}
use Rattle.phone_base.specs.declared.error.LoadMetadata.{LoadMetadata}
use Rattle.phone_base.specs.declared.error.LoadMetadata.TheVariants as error

-- one of these texts is refused, and all before it are patterns
abbrev pub IsRefusedIn : List (List ℕ) → List ℕ → Type 0
IsRefusedIn ps p = (before : List (List ℕ)) × (after : List (List ℕ)) × (ps ≡ before ++ p ∷ after) ×
    AllByRecursion IsPattern before

-- one of these patterns, which are compiled in this order, is refused by its text, or memory was
-- refused
abbrev pub IsPatternRefusal : List (List ℕ) → LoadMetadata → Type 0
IsPatternRefusal ps (error.Regex text) = IsRefusedIn ps (string_bytes text)
IsPatternRefusal ps error.Memory = Unit {0}
IsPatternRefusal ps _ = ⊥
