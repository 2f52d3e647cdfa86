use Rattle.std.proofs.Common.{◌≡◌, chars, length}
use denote.Text.{Utf8}
use denote.Shadow.{shadow}
use Rattle.phone_dialling.specs.Kept.{from_first}
use Rattle.phone_dialling.proofs.kept.from_first.Given as goal

abbrev pub invariant-loop-after : goal.invariant-loop-after
invariant-loop-after l = shadow (Utf8 l.rest) × (from_first l.front (chars l.text) ≡ from_first l.front (chars l.rest))

abbrev pub decreases-loop-after : goal.decreases-loop-after
decreases-loop-after l = length l.rest
