use Rattle.std.proofs.Common.{sym, ◌∙◌}
use Rattle.phone_matches.proofs.Parts.{part_here}
use Rattle.phone_matches.proofs.texts.from_part.Goals as goal

pub returns : goal.returns
returns c =
    sym (c.loop-rest.invariant ∙ part_here c.args.part.now c.loop-rest.rest.now (sym c.starts_with.ensures.value ∙ c.loop-rest-test.false))
