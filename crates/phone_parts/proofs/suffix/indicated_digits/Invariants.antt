use Rattle.std.proofs.Common.{◌≡◌, true, List, ℕ, ◌++◌, chars, length}
use denote.Text.{Utf8}
use denote.Shadow.{shadow}
use Rattle.std.specs.List.{list_all}
use Rattle.phone_parts.specs.Suffixes.{IsIndicated, is_lead}
use Rattle.phone_parts.proofs.suffix.indicated_digits.Given as goal

abbrev pub invariant-loop-c : goal.invariant-loop-c
invariant-loop-c l =
    shadow (Utf8 l.rest) × ((v : List ℕ) × (l.text ≡ v ++ l.rest))
    × ((lead : List ℕ) × (chars l.text ≡ lead ++ chars l.rest) × (list_all is_lead lead ≡ true))
    × ((d : List ℕ) → IsIndicated (chars l.text) d → IsIndicated (chars l.rest) d)

abbrev pub decreases-loop-c : goal.decreases-loop-c
decreases-loop-c l = length l.rest
