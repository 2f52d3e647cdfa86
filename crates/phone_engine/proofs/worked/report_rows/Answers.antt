use Rattle.phone_engine.proofs.ReportRows as row
use Rattle.phone_engine.proofs.worked.report_rows.Goals as goal

pub returns : goal.returns
returns c = record { number = row.read; refused = row.refused; no_text = row.no_text }
