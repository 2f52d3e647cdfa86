use Rattle.phone_engine.specs.ReportLines.{IsReportLine}
use Rattle.headline_examples.proofs.SideBySide.{IsReport-append}
use Rattle.headline_examples.proofs.side_by_side.report_of_two_parts.Goals as goal

pub returns : goal.returns
returns c rules db hint = IsReport-append (IsReportLine rules db hint)
