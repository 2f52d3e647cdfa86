use Rattle.std.proofs.Common.{◌+◌}
use Rattle.phone_find.specs.Founds.{IsDecided}
use Rattle.phone_find.specs.Numbers.{IsNumberAt}
use Rattle.phone_find.proofs.Somes.{below_next}
use Rattle.phone_find.proofs.laws.some_pieces_at.Goals as goal

pub loop-end-preserved : goal.loop-end-preserved
loop-end-preserved c rules db hint l =
    let text = c.args.text.now in
    below_next (λ end. IsDecided (IsNumberAt rules db hint l text) text c.args.start (end + 1))
    c.loop-end.end (c.loop-end.invariant rules db hint l) (c.some_piece.ensures rules db hint l)
