use Rattle.std.proofs.Common.{◌↔◌, chars, length}
use denote.Text.{Utf8}
use denote.Shadow.{shadow}
use Rattle.phone_library_text.specs.Contexts.{IsDomain}
use Rattle.phone_library_text.proofs.contexts.is_domain.Given as goal

abbrev pub invariant-loop-label : goal.invariant-loop-label
invariant-loop-label l = shadow (Utf8 l.rest) × (IsDomain (chars l.rest) ↔ IsDomain (chars l.text))

abbrev pub decreases-loop-label : goal.decreases-loop-label
decreases-loop-label l = length l.rest
