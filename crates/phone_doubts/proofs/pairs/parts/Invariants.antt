use Rattle.std.proofs.Common.{◌≡◌, List, ℕ, ◌++◌, chars, length}
use denote.Text.{Utf8}
use denote.Shadow.{shadow}
use Rattle.phone_doubts.specs.Valid.{NoneBefore}
use Rattle.phone_doubts.proofs.pairs.parts.Given as goal

abbrev pub invariant-loop-next : goal.invariant-loop-next
invariant-loop-next l =
    shadow (Utf8 l.rest) × ((v : List ℕ) × (l.field ≡ v ++ l.rest))
    × ((passed : List ℕ) × (chars l.field ≡ passed ++ chars l.rest)
    × NoneBefore l.engine.rules l.engine.database.now l.engine.hint (chars l.field) (length passed))

abbrev pub decreases-loop-next : goal.decreases-loop-next
decreases-loop-next l = length l.rest
