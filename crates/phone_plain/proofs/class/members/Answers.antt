use Rattle.phone_plain.proofs.Classing.{no_members, more_members}
use Rattle.phone_plain.proofs.class.members.Goals as goal

pub loop-rest-init : goal.loop-rest-init
loop-rest-init c = rw c.new-ranges.ensures.items (no_members c.args.text.now)

pub loop-rest-preserved : goal.loop-rest-preserved
loop-rest-preserved c =
    rw c.in_ok-add.ensures
    (more_members c.args.text.now c.loop-rest.rest.now c.in_ok-range.after.now c.loop-rest.ranges.items c.in_ok-range.range c.loop-rest.invariant c.in_ok-range.ensures)
