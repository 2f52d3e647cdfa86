use Rattle.std.proofs.Common.{Some, ap, refl}
use Rattle.std.proofs.lemmas.Result.{IfOk-weaker}
use Rattle.phone_commands.specs.Pairs.{IsWithTab}
use Rattle.phone_commands.proofs.MemoryLemmas.{report_taken, whole_of}
use Rattle.phone_lines.proofs.ByItself.{Ends-by_itself}
use Rattle.phone_commands.proofs.columns.bytes_with_tabs.Goals as goal

pub returns-clause-tabs : goal.returns-clause-tabs
returns-clause-tabs g c =
    let ends = Ends-by_itself _ _ _ _ _ _ c.take_lines-end.ensures.ends in
    IfOk-weaker c.copy_after.result _ _
    (λ v h. rw (h.1, c.bytes.ensures)
    (report_taken IsWithTab _ _ _ (whole_of IsWithTab _ _ _ ends h.0) (ap
    (λ s. Some s.taken) c.new-text.ensures) refl))
    c.copy_after.ensures.copied
