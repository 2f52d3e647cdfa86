-- The report on bytes that are lines of phone numbers, by whose rules.
use Rattle.std.specs.Prelude.{ℕ, List, Option}
use Rattle.phone_values.specs.declared.rules.Rules.{Rules}
use Rattle.phone_lines.specs.LineReports as on_lines
use Rattle.phone_records.specs.declared.loader.Metadata.{Metadata}
use Rattle.phone_values.specs.declared.country.Id.{Id}
use Rattle.phone_engine.specs.ReportLines.{IsReportLine}

-- the report under a database and a hint: a report line for each line of the bytes
abbrev pub IsReport : Rules → List Metadata → Option Id → List ℕ → List ℕ → Type 0
IsReport rules db hint bytes report =
    on_lines.IsReport (IsReportLine rules db hint) bytes report

-- a beginning of the report on what was read, where this is still to come: the report lines of some
-- first lines, each whole, then a beginning of the next one
abbrev pub IsBeginning : Rules → List Metadata → Option Id → Option (List ℕ) → List ℕ →
    List ℕ → Type 0
IsBeginning rules db hint to_come bytes text =
    on_lines.IsBeginning (IsReportLine rules db hint) to_come bytes text

-- a sink took a beginning of whatever is the report
abbrev pub TakesBeginning : Rules → List Metadata → Option Id → List ℕ → Option (List ℕ) →
    Option (List ℕ) → Type 0
TakesBeginning rules db hint bytes before after =
    on_lines.TakesBeginning (IsReportLine rules db hint) bytes before after
