use Rattle.phone_pattern.proofs.ReadTexts.{tells_of_read}
use Rattle.regex_hir.specs.Meaning.{meaning}
use Rattle.phone_pattern.proofs.plan.Plan.of.Goals as goal

pub invariant_of-result : goal.invariant_of-result
invariant_of-result c =
    let is = c.requires in
    (is.0, is.2, tells_of_read c.args.text (meaning c.args.read.hir) c.args.read.groups is c.table.result c.table.ensures)
