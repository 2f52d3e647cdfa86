use Rattle.std.proofs.Common.{chars, subst}
use Rattle.phone_engine.proofs.OneLine.{line_of_reading}
use Rattle.phone_engine.specs.Readings.{ReadsBy}
use Rattle.phone_engine.specs.ReportLines.IsReportLine.{no_text}
use Rattle.phone_engine.proofs.laws.some_report_line.Goals as goal

pub returns-in-Ok : goal.returns-in-Ok
returns-in-Ok c rules db hint =
    let line = c.args.line.now in
    let r = c.some_reading.ensures rules db hint in
    line_of_reading rules db hint line r.0 c.in-Ok.ensures.cases.1
    (subst (λ t. ReadsBy rules db hint (chars t) r.0) c.in-Ok.ensures.cases.0 r.1)

pub returns-in_default : goal.returns-in_default
returns-in_default c rules db hint = (_, no_text c.in_default.ensures.cases.0)
