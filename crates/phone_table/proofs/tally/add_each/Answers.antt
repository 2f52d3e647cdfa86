use Rattle.std.proofs.Common.{subst, arith}
use Rattle.std.proofs.lemmas.List.{take_all}
use Rattle.phone_table.specs.Summaries.{texts_in}
use Rattle.phone_table.specs.Tallies.{CountsMore}
use Rattle.phone_table.proofs.Counting.{counts_nothing, counts_turn}
use Rattle.phone_table.proofs.tally.add_each.Goals as goal

pub loop-text-init : goal.loop-text-init
loop-text-init c = counts_nothing c.args.tally.now

pub loop-text-preserved : goal.loop-text-preserved
loop-text-preserved c =
    counts_turn c.args.tally.now c.loop-text.tally c.add_bytes.new.tally c.args.texts.now c.loop-text.text-index _ c.loop-text-test.true c.loop-text.invariant c.in_ok-add_bytes.ensures

pub returns : goal.returns
returns c = subst (λ ts. CountsMore c.args.tally.now (texts_in ts) c.loop-text.tally) (take_all c.loop-text.text-index c.args.texts.now (omega (arith, c.loop-text-test.false))) c.loop-text.invariant
