use Rattle.std.proofs.Common.{arith, ap, length, sym}
use Rattle.std.proofs.lemmas.Fmt.{decimal_digit}
use Rattle.phone_read.proofs.DecimalFronts.{length-decimal}
use Rattle.phone_read.proofs.trims.decimal_len.Goals as goal

pub returns-then-number-lt10 : goal.returns-then-number-lt10
returns-then-number-lt10 c = ap length (sym (decimal_digit c.args.number c.if-number-lt10.true))

pub returns-then-number-lt100 : goal.returns-then-number-lt100
returns-then-number-lt100 c =
    length-decimal c.args.number 1 (omega (arith, c.if-number-lt100.true)) (omega (arith, c.if-number-lt10.false)) (omega (arith, c.if-number-lt100.true))

pub returns-then-number-lt1000 : goal.returns-then-number-lt1000
returns-then-number-lt1000 c =
    length-decimal c.args.number 2 (omega (arith, c.if-number-lt1000.true)) (omega (arith, c.if-number-lt100.false)) (omega (arith, c.if-number-lt1000.true))

pub returns-then-number-lt10000 : goal.returns-then-number-lt10000
returns-then-number-lt10000 c =
    length-decimal c.args.number 3 (omega (arith, c.if-number-lt10000.true)) (omega (arith, c.if-number-lt1000.false)) (omega (arith, c.if-number-lt10000.true))

pub returns-else-number-lt10000 : goal.returns-else-number-lt10000
returns-else-number-lt10000 c =
    length-decimal c.args.number 4 (omega (arith, c.ranges.number.fits)) (omega (arith, c.if-number-lt10000.false)) (omega (arith, c.ranges.number.fits))
