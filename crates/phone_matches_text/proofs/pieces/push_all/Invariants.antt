use Rattle.std.proofs.Common.{◌≡◌, ◌++◌, List, chars, drop}
use Rattle.phone_matches_text.specs.Lent.{AllStandThere, told_pieces}
use Rattle.phone_matches_text.specs.Pieces.{AreAllPieces, Piece}
use Rattle.phone_matches_text.proofs.pieces.push_all.Given as goal

abbrev pub invariant-loop-sign : goal.invariant-loop-sign
invariant-loop-sign l =
    ((done : List Piece) × (told_pieces l.pieces.items ≡ told_pieces l.initial.pieces.items ++ done)
    × ((more : List Piece) → AreAllPieces (chars l.text) (drop l.sign-index l.signs) more → AreAllPieces (chars l.text) l.signs (done ++ more)))
    × (AllStandThere l.text l.initial.pieces.items → AllStandThere l.text l.pieces.items)
