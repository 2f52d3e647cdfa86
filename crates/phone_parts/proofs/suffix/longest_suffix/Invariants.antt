use Rattle.std.proofs.Common.{◌≡◌, true, List, ℕ, ◌<◌, ◌++◌, chars, length, drop}
use denote.Text.{Utf8}
use denote.Shadow.{shadow}
use Rattle.phone_parts.specs.Suffixes.{IsSuffix, IsIndicated}
use Rattle.phone_parts.specs.declared.suffix.Form.{Form}
use Rattle.phone_parts.proofs.suffix.longest_suffix.Given as goal

abbrev pub invariant-loop-c : goal.invariant-loop-c
invariant-loop-c l =
    shadow (Utf8 l.rest) × ((v : List ℕ) × (l.text ≡ v ++ l.rest))
    × ((passed : List ℕ) × (chars l.text ≡ passed ++ chars l.rest)
    × ((k : ℕ) → k < length passed → (f : Form) (d : List ℕ) → ¬ (IsSuffix (drop k (chars l.text)) f d)))
    × (l.in_lead ≡ true → (d : List ℕ) → ¬ (IsIndicated (chars l.rest) d))

abbrev pub decreases-loop-c : goal.decreases-loop-c
decreases-loop-c l = length l.rest
