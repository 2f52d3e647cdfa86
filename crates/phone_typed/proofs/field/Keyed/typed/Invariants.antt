use Rattle.std.proofs.Common.{◌≡◌, chars, length}
use denote.Text.{Utf8}
use denote.Shadow.{shadow}
use Rattle.phone_typed.specs.KeyedFields.{empty}
use Rattle.phone_typed.specs.Steps.{typed_all}
use Rattle.phone_typed.proofs.field.Keyed.typed.Given as goal

abbrev pub invariant-loop-c : goal.invariant-loop-c
invariant-loop-c l = shadow (Utf8 l.rest) × (typed_all (chars l.text) (empty l.fn.database l.fn.hint) ≡ typed_all (chars l.rest) l.field)

abbrev pub decreases-loop-c : goal.decreases-loop-c
decreases-loop-c l = length l.rest
