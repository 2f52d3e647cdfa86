use Rattle.std.proofs.Common.{◌≡◌, List, ℕ, ◌<◌, ◌++◌, false, chars, length, drop}
use denote.Text.{Utf8}
use denote.Shadow.{shadow}
use Rattle.phone_parts.specs.Cores.{begins_second_number}
use Rattle.phone_parts.proofs.helper.before_second_number.Given as goal

abbrev pub invariant-loop-after : goal.invariant-loop-after
invariant-loop-after l =
    shadow (Utf8 l.rest) × ((v : List ℕ) × (l.text ≡ v ++ l.rest))
    × ((passed : List ℕ) × (chars l.text ≡ passed ++ chars l.rest) × ((k : ℕ) → k < length passed → begins_second_number (drop k (chars l.text)) ≡ false))

abbrev pub decreases-loop-after : goal.decreases-loop-after
decreases-loop-after l = length l.rest
