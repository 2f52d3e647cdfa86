use Rattle.std.proofs.Common.{◌≡◌, ◌++◌, chars, encode_utf8_all, string_bytes, length}
use denote.Text.{Utf8}
use denote.Shadow.{shadow}
use Rattle.phone_further.specs.OwnLayouts.{braced}
use Rattle.phone_further.proofs.own_layouts.braced.Given as goal

abbrev pub invariant-loop-c : goal.invariant-loop-c
invariant-loop-c l =
    shadow (Utf8 l.rest)
    × (encode_utf8_all (braced (chars l.template)) ≡ string_bytes l.out ++ encode_utf8_all (braced (chars l.rest)))

abbrev pub decreases-loop-c : goal.decreases-loop-c
decreases-loop-c l = length l.rest
