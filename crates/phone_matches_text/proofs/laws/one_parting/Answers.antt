use Rattle.phone_matches_text.proofs.PieceOnes.{pieces_same}
use Rattle.phone_matches_text.specs.Pieces.{signs}
use Rattle.phone_matches_text.proofs.laws.one_parting.Goals as goal

pub returns : goal.returns
returns c text a b = pieces_same text signs a b
