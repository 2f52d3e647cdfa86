use Rattle.std.proofs.Common.{◌≡◌, ⊎_elim, Result, Ok, Err, IfOk, OnOk, inr, refl, string_bytes}
use Rattle.std.proofs.lemmas.Result.{IfErr-at_err, IfOk-weaker}
use Rattle.phone_engine.proofs.OneReading.{number_reads}
use Rattle.phone_engine.specs.ReportLines.{IsReportLine}
use Rattle.phone_values.specs.declared.error.ParseError.TheVariants as refusal
use Rattle.phone_commands.specs.WrittenLines.{IsWrittenLine}
use Rattle.phone_commands.specs.WrittenLines.IsWrittenLine.{none, number}
use Rattle.phone_commands.proofs.written.written_text.Goals as goal

-- what two clauses say of one answer
both : {T E : Type 0} (r : Result T E) (N : Type 0) (P R : T → Type 0) → (N → (x : T) → P x → R x) → OnOk r N → IfOk r P → IfOk r R
both (Ok x) N P R f n p = f n x p
both (Err e) N P R f n p = tt

pub returns-in-Ok : goal.returns-in-Ok
returns-in-Ok c =
    let e = c.args.engine in
    let reads = number_reads e.rules e.database.now e.hint refl c.in-Ok.ensures in
    IfOk-weaker c.in_form.result _ (λ t. IsWrittenLine e.rules e.database.now e.hint c.args.form c.args.text.now (string_bytes t))
    (λ t is. number c.in-Ok.number (string_bytes t) c.utf8.text reads is) c.in_form.ensures

pub returns-in-Err : goal.returns-in-Err
returns-in-Err c =
    let e = c.args.engine in
    both c.unwritten.result (¬ (c.in-Err.error ≡ refusal.Memory))
    (λ t. IsReportLine e.rules e.database.now e.hint c.args.text.now (string_bytes t))
    (λ t. IsWrittenLine e.rules e.database.now e.hint c.args.form c.args.text.now (string_bytes t))
    (λ some t report. none (string_bytes t) (inr (c.in-Err.error, ⊎_elim (λ m. absurd (some (IfErr-at_err (λ x. c.in-Err.error ≡ x) m refl))) (λ r. r) c.in-Err.ensures)) report)
    c.unwritten.ensures.memory c.unwritten.ensures.report
