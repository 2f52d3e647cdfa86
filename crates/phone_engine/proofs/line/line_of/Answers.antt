use Rattle.std.proofs.Common.{◌≡◌, ⊎_elim, Err, chars, string_bytes, refl, sym, ap, subst}
use Rattle.std.proofs.lemmas.Result.{IfErr-at_err, IfOk-from_err, IfOk-weaker}
use Rattle.phone_engine.proofs.OneReading.{has_territory, number_reads}
use Rattle.phone_engine.specs.Readings.{ReadsBy}
use Rattle.phone_engine.specs.ReportLines.{IsReportLine}
use Rattle.phone_engine.specs.ReportLines.IsReportLine.{no_text, refused, read}
use Rattle.phone_engine.proofs.line.line_of.Goals as goal

pub returns-in_default : goal.returns-in_default
returns-in_default c =
    let is = IsReportLine c.args.engine.rules c.args.engine.database.now c.args.engine.hint c.args.line.now in
    IfOk-weaker c.from_str.result _ (λ text. is (string_bytes text))
    (λ s e. subst is (sym e) (no_text c.in_default.ensures.cases.0)) c.from_str.ensures.ok

pub returns-in-Err : goal.returns-in-Err
returns-in-Err c =
    let by = c.args.engine.rules in
    let db = c.args.engine.database.now in
    let hint = c.args.engine.hint in
    let is = IsReportLine by db hint c.args.line.now in
    let e = c.in-Err.error in
    ⊎_elim
    (λ m. IfOk-from_err c.refusal_line.result (λ text. is (string_bytes text)) (c.refusal_line.ensures.memory (IfErr-at_err (λ x. e ≡ x) m refl)))
    (λ r. IfOk-weaker c.refusal_line.result _ (λ text. is (string_bytes text))
    (λ s same. subst is (sym same)
    (refused e c.in-Ok.ensures.cases.1 (subst (λ t. ReadsBy by db hint (chars t) (Err e)) c.in-Ok.ensures.cases.0 r)))
    c.refusal_line.ensures.line)
    c.in-Err.ensures

pub returns-in-Ok-number_line : goal.returns-in-Ok-number_line
returns-in-Ok-number_line c =
    let by = c.args.engine.rules in
    let db = c.args.engine.database.now in
    let hint = c.args.engine.hint in
    let l = c.in-Ok-number_line.ensures.line in
    subst (IsReportLine by db hint c.args.line.now) (sym l.2)
    (read c.in-Ok-parse.number l.0 c.in-Ok.ensures.cases.1 (number_reads by db hint c.in-Ok.ensures.cases.0 c.in-Ok-parse.ensures) l.1)

pub unreachable-requires : goal.unreachable-requires
unreachable-requires c =
    let by = c.args.engine.rules in
    let db = c.args.engine.database.now in
    let hint = c.args.engine.hint in
    has_territory by db hint (chars c.args.line.now) c.in-Ok-parse.number
    (number_reads by db hint c.in-Ok.ensures.cases.0 c.in-Ok-parse.ensures) (c.in-Err-UnknownCode.ensures.unknown (ap Err c.in-Err-UnknownCode.field-0-is))
