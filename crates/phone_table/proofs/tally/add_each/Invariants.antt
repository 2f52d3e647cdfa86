use Rattle.std.proofs.Common.{take}
use Rattle.phone_table.specs.Summaries.{texts_in}
use Rattle.phone_table.specs.Tallies.{CountsMore}
use Rattle.phone_table.proofs.tally.add_each.Given as goal

-- those that were gone over are counted
abbrev pub invariant-loop-text : goal.invariant-loop-text
invariant-loop-text l =
    CountsMore l.initial.tally (texts_in (take l.text-index l.texts)) l.tally
