use Rattle.std.proofs.Common.{◌≡◌, ◌++◌, chars, length}
use denote.Text.{Utf8}
use denote.Shadow.{shadow}
use Rattle.phone_matches.specs.Runs.{groups, told}
use Rattle.phone_matches.proofs.runs.groups.Given as goal

abbrev pub invariant-loop-group : goal.invariant-loop-group
invariant-loop-group g l =
    shadow (Utf8 l.rest)
    × (groups (g.S.CharSet.members l.set) (chars l.text) ≡ told l.all.items ++ groups (g.S.CharSet.members l.set) (chars l.rest))

abbrev pub decreases-loop-group : goal.decreases-loop-group
decreases-loop-group g l = length l.rest
