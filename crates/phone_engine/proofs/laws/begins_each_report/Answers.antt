use Rattle.phone_lines.proofs.Beginnings.{TakesA-begins}
use Rattle.phone_engine.specs.ReportLines.{IsReportLine}
use Rattle.phone_engine.proofs.OneLine.{one_report_line}
use Rattle.phone_engine.proofs.laws.begins_each_report.Goals as goal

pub returns : goal.returns
returns c rules db hint = TakesA-begins (IsReportLine rules db hint) (one_report_line rules db hint)
