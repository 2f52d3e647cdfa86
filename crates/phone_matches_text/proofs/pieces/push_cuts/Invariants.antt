use Rattle.std.proofs.Common.{◌≡◌, ◌++◌, List, chars, length}
use denote.Text.{Utf8}
use denote.Shadow.{shadow}
use Rattle.phone_chars.specs.Cuts.{IsEnd}
use Rattle.phone_matches_text.specs.Lent.{AllStandThere, told_pieces}
use Rattle.phone_matches_text.specs.Pieces.{AreCuts, Piece}
use Rattle.phone_matches_text.proofs.pieces.push_cuts.Given as goal

abbrev pub invariant-loop-from : goal.invariant-loop-from
invariant-loop-from l =
    shadow (Utf8 l.rest) × IsEnd l.text l.rest
    × ((done : List Piece) × (told_pieces l.pieces.items ≡ told_pieces l.initial.pieces.items ++ done)
    × ((more : List Piece) → AreCuts l.sign (chars l.text) (chars l.rest) more → AreCuts l.sign (chars l.text) (chars l.text) (done ++ more)))
    × (AllStandThere l.text l.initial.pieces.items → AllStandThere l.text l.pieces.items)

abbrev pub decreases-loop-from : goal.decreases-loop-from
decreases-loop-from l = length (chars l.rest)
