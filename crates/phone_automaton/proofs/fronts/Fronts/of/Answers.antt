use Rattle.std.proofs.Common.{Bool, true, false, subst}
use Rattle.regex_extract.specs.Frames.{Marks}
use Rattle.regex_hir.specs.Meaning.{meaning}
use Rattle.phone_automaton.proofs.Fronting.{begins_in, begins_in_any}
use Rattle.phone_automaton.proofs.fronts.Fronts.of.Goals as goal

pub returns-then-mark : goal.returns-then-mark
returns-then-mark c = begins_in_any _ (meaning c.args.hir.now) c.any.ensures

pub returns : goal.returns
returns c =
    begins_in _ (meaning c.args.hir.now)
    (subst (λ (o : Bool). Marks true false c.mark.new.set o (meaning c.args.hir.now)) c.if-mark.false c.mark.ensures.marks)
