use Rattle.phone_lines.proofs.AnswerLemmas.{same_report}
use Rattle.phone_engine.specs.ReportLines.{IsReportLine}
use Rattle.phone_engine.proofs.OneLine.{one_report_line}
use Rattle.phone_engine.proofs.laws.one_report.Goals as goal

pub returns-clause-line : goal.returns-clause-line
returns-clause-line c = one_report_line

pub returns-clause-whole : goal.returns-clause-whole
returns-clause-whole c rules db hint = same_report (IsReportLine rules db hint) (one_report_line rules db hint)
