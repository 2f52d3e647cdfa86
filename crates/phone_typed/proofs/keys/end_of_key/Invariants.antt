use Rattle.std.proofs.Common.{◌≡◌, ◌++◌, IsCharBoundary, drop, take}
use Rattle.phone_typed.specs.Keys.{up_to_key}
use Rattle.phone_typed.proofs.keys.end_of_key.Given as goal

abbrev pub invariant-loop-at : goal.invariant-loop-at
invariant-loop-at l = (up_to_key l.n l.text ≡ take l.at l.text ++ up_to_key l.left (drop l.at l.text)) × (l.left ≡ 0 → IsCharBoundary l.text l.at)
