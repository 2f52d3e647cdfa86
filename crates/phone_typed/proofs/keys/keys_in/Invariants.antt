use Rattle.std.proofs.Common.{◌≡◌, [], chars, string_bytes, length}
use denote.Text.{Utf8}
use denote.Shadow.{shadow}
use Rattle.phone_typed.specs.Keys.{with_keys}
use Rattle.phone_typed.proofs.keys.keys_in.Given as goal

abbrev pub invariant-loop-c : goal.invariant-loop-c
invariant-loop-c l = shadow (Utf8 l.rest) × (with_keys [] (chars l.text) ≡ with_keys (string_bytes l.keys) (chars l.rest))

abbrev pub decreases-loop-c : goal.decreases-loop-c
decreases-loop-c l = length l.rest
