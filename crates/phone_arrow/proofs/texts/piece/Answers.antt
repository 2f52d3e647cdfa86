use Rattle.std.proofs.Common.{length}
use Rattle.phone_arrow.proofs.TextLemmas.{neighbours}
use Rattle.phone_arrow.proofs.texts.piece.Goals as goal

pub cut-requires-clause-ordered : goal.cut-requires-clause-ordered
cut-requires-clause-ordered c =
    (neighbours 0 c.args.offsets.now (length c.args.bytes.now) c.args.at c.requires.ascending c.requires.within).0

pub cut-requires-clause-inside : goal.cut-requires-clause-inside
cut-requires-clause-inside c =
    (neighbours 0 c.args.offsets.now (length c.args.bytes.now) c.args.at c.requires.ascending c.requires.within).1
