use Rattle.std.proofs.Common.{IfOk, inl, string_bytes, subst}
use Rattle.std.proofs.lemmas.Result.{IfOk-weaker}
use Rattle.phone_commands.specs.WrittenLines.{IsWrittenLine}
use Rattle.phone_commands.specs.WrittenLines.IsWrittenLine.{none}
use Rattle.phone_commands.proofs.written.written_line.Goals as goal

pub returns-in-Ok : goal.returns-in-Ok
returns-in-Ok c =
    let e = c.args.engine in
    subst (λ l. IfOk c.written_text.result (λ t. IsWrittenLine e.rules e.database.now e.hint c.args.form l (string_bytes t))) c.in-Ok.ensures.cases.0 c.written_text.ensures

pub returns-in-Err : goal.returns-in-Err
returns-in-Err c =
    let e = c.args.engine in
    IfOk-weaker c.report_line.result _ (λ t. IsWrittenLine e.rules e.database.now e.hint c.args.form c.args.line.now (string_bytes t))
    (λ t report. none (string_bytes t) (inl c.in-Err.ensures.cases.0) report) c.report_line.ensures
