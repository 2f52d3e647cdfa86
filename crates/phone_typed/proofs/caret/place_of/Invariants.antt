use Rattle.std.proofs.Common.{◌≡◌, ◌+◌, ◌≤◌, chars, length}
use denote.Text.{Utf8}
use denote.Shadow.{shadow}
use Rattle.phone_typed.specs.Carets.{place_of}
use Rattle.phone_typed.proofs.caret.place_of.Given as goal

abbrev pub invariant-loop-key : goal.invariant-loop-key
invariant-loop-key l = shadow (Utf8 l.rest) × (l.place + length l.rest ≤ length l.shown) × (place_of l.keys (chars l.shown) ≡ l.place + place_of l.left (chars l.rest))

abbrev pub decreases-loop-key : goal.decreases-loop-key
decreases-loop-key l = length l.rest
