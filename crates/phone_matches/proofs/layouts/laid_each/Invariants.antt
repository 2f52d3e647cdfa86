use Rattle.std.proofs.Common.{◌≡◌, ◌++◌, length, string_bytes}
use denote.Text.{Utf8}
use denote.Shadow.{shadow}
use Rattle.phone_matches.specs.Layouts.{laid_each}
use Rattle.phone_matches.proofs.layouts.laid_each.Given as goal

abbrev pub invariant-loop-left : goal.invariant-loop-left
invariant-loop-left l =
    shadow (Utf8 l.rest) × (laid_each (length l.digits) l.layout l.digits ≡ string_bytes l.out ++ laid_each l.left l.layout l.rest)

abbrev pub decreases-loop-left : goal.decreases-loop-left
decreases-loop-left l = l.left
