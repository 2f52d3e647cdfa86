use Rattle.std.proofs.Common.{◌≡◌, [], chars, length, string_bytes}
use denote.Text.{Utf8}
use denote.Shadow.{shadow}
use Rattle.phone_keyed_parts.specs.Templates.{begun}
use Rattle.phone_keyed_parts.proofs.templates.begun.Given as goal

abbrev pub invariant-loop-digit : goal.invariant-loop-digit
invariant-loop-digit l = shadow (Utf8 l.rest) × shadow (Utf8 l.left) × (begun [] (chars l.template) (chars l.digits) ≡ begun (string_bytes l.shown) (chars l.rest) (chars l.left))

abbrev pub decreases-loop-digit : goal.decreases-loop-digit
decreases-loop-digit l = length l.rest
