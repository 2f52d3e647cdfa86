use Rattle.std.proofs.Common.{◌≡◌, false, chars, length}
use denote.Text.{Utf8}
use denote.Shadow.{shadow}
use Rattle.phone_keyed_parts.specs.Templates.{is_simple}
use Rattle.phone_keyed_parts.proofs.templates.is_simple.Given as goal

abbrev pub invariant-loop-c : goal.invariant-loop-c
invariant-loop-c l = shadow (Utf8 l.rest) × (is_simple false false (chars l.template) ≡ is_simple l.is_open l.seen (chars l.rest))

abbrev pub decreases-loop-c : goal.decreases-loop-c
decreases-loop-c l = length l.rest
