use Rattle.std.proofs.Common.{chars, length}
use denote.Text.{Utf8}
use denote.Shadow.{shadow}
use Rattle.phone_matches.specs.Marks.{HasGoodMarks}
use Rattle.phone_matches.proofs.marks.has_good_marks.Given as goal

abbrev pub invariant-loop-mark : goal.invariant-loop-mark
invariant-loop-mark l =
    shadow (Utf8 l.rest) × (HasGoodMarks l.db l.number (chars l.rest) → HasGoodMarks l.db l.number (chars l.text))
    × (HasGoodMarks l.db l.number (chars l.text) → HasGoodMarks l.db l.number (chars l.rest))

abbrev pub decreases-loop-mark : goal.decreases-loop-mark
decreases-loop-mark l = length l.rest
