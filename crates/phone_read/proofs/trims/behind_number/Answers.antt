use Rattle.std.proofs.Common.{IsCharBoundary, arith, sym, subst}
use Rattle.phone_read.proofs.DecimalFronts.{border_after_number}
use Rattle.phone_read.proofs.trims.behind_number.Goals as goal

pub returns-clause-border : goal.returns-clause-border
returns-clause-border c =
    subst (IsCharBoundary c.args.text.now) (sym c.decimal_len.ensures)
    (border_after_number c.args.text.now c.args.number (omega (arith, c.ranges.number.fits)) c.utf8.text c.requires)
