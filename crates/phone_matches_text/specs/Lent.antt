-- Pieces as they are lent from a text, told as lists.
use Rattle.std.specs.Prelude.{ℕ, List, chars, map}
use Rattle.std.specs.List.{AllByRecursion}
use Rattle.phone_matches_text.specs.Pieces.{Piece, StandsIn}
use Rattle.phone_matches_text.specs.declared.pieces.Piece.{Piece as Lent}

-- a piece by its characters
abbrev pub told_piece : Lent → Piece
told_piece p = (chars p.before.now, chars p.text.now)

-- pieces by their characters
abbrev pub told_pieces : List Lent → List Piece
told_pieces ps = map told_piece ps

-- a piece stands in a text, by its bytes
abbrev pub StandsThere : List ℕ → Lent → Type 0
StandsThere text p = StandsIn text (p.before.now, p.text.now)

-- each of these does
abbrev pub AllStandThere : List ℕ → List Lent → Type 0
AllStandThere text ps = AllByRecursion (StandsThere text) ps
