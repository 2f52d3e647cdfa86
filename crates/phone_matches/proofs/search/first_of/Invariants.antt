use Rattle.std.proofs.Common.{chars}
use Rattle.phone_matches_text.specs.Shapes.{before_end}
use Rattle.phone_matches.proofs.Firsts.{FirstFrom}
use Rattle.phone_matches.proofs.search.first_of.Given as goal

abbrev pub invariant-loop-at : goal.invariant-loop-at
invariant-loop-at g l =
    FirstFrom (g.J.Judge.accepts l.judge) (chars l.text) (before_end (chars l.text) (chars l.from)) l.pieces l.at
