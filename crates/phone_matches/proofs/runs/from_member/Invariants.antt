use Rattle.std.proofs.Common.{◌≡◌, ◌≤◌, chars, length}
use denote.Text.{Utf8}
use denote.Shadow.{shadow}
use Rattle.phone_chars.specs.Cuts.{after_front}
use Rattle.phone_matches.proofs.Grouped.{is_other}
use Rattle.phone_matches.proofs.runs.from_member.Given as goal

abbrev pub invariant-loop-c : goal.invariant-loop-c
invariant-loop-c g l =
    shadow (Utf8 l.rest)
    × (after_front (is_other (g.S.CharSet.members l.set)) (chars l.text) ≡ after_front (is_other (g.S.CharSet.members l.set)) (chars l.rest))
    × (length l.rest ≤ length l.text)

abbrev pub decreases-loop-c : goal.decreases-loop-c
decreases-loop-c g l = length l.rest
