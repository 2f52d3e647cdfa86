use Rattle.std.proofs.Common.{◌≡◌, chars, length}
use Rattle.std.specs.Str.{bytes_eq}
use denote.Text.{Utf8}
use denote.Shadow.{shadow}
use Rattle.phone_dialling.specs.Keys.{keys_of}
use Rattle.phone_dialling.proofs.ends.has_keys.Given as goal

abbrev pub invariant-loop-c : goal.invariant-loop-c
invariant-loop-c l = shadow (Utf8 l.rest) × (bytes_eq (keys_of (chars l.text)) l.digits ≡ bytes_eq (keys_of (chars l.rest)) l.left)

abbrev pub decreases-loop-c : goal.decreases-loop-c
decreases-loop-c l = length l.rest
