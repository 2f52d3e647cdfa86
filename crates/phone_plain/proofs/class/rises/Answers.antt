use Rattle.std.proofs.Common.{◌∙◌}
use Rattle.phone_plain.proofs.Classing.{rises_more, rises_all}
use Rattle.phone_plain.proofs.class.rises.Goals as goal

pub loop-i-preserved : goal.loop-i-preserved
loop-i-preserved c =
    c.loop-i.invariant
    ∙ rises_more c.args.ranges.now c.loop-i.i c.loop-i.least c.loop-i-test.true c.if-first-least.false c.if-last-first.false c.if-last-gt-LAST_DIGIT.false

pub returns : goal.returns
returns c told = rises_all c.args.ranges.now c.loop-i.i c.loop-i.least c.loop-i-test.false c.loop-i.invariant
