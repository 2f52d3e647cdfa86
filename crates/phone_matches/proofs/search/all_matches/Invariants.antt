use Rattle.std.proofs.Common.{chars, length}
use denote.Text.{Utf8}
use denote.Shadow.{shadow}
use Rattle.phone_chars.specs.Cuts.{IsEnd}
use Rattle.phone_matches.proofs.Steps.{SoFar}
use Rattle.phone_matches.specs.Told.{AllMatchThere, told_matches}
use Rattle.phone_matches.proofs.search.all_matches.Given as goal

abbrev pub invariant-loop-left : goal.invariant-loop-left
invariant-loop-left g l =
    shadow (Utf8 l.rest) × IsEnd l.text l.rest
    × SoFar (g.J.Judge.accepts l.judge) (chars l.text) l.tries l.left (chars l.rest) (told_matches l.all.items)
    × AllMatchThere l.text l.all.items

abbrev pub decreases-loop-left : goal.decreases-loop-left
decreases-loop-left g l = length l.rest
