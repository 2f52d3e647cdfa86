-- A report line, with the line that it answers.
use Rattle.std.specs.Prelude.{◌≡◌, ℕ, List, ◌∷◌, ◌++◌, Option}
use Rattle.phone_engine.specs.ReportLines.{IsReportLine}
use Rattle.phone_records.specs.declared.loader.Metadata.{Metadata}
use Rattle.phone_values.specs.declared.country.Id.{Id}
use Rattle.phone_values.specs.declared.rules.Rules.{Rules}

-- what the report says of a line, a tab, and the line, its bytes as they are
abbrev pub IsWithInput : Rules → List Metadata → Option Id → List ℕ → List ℕ → Type 0
IsWithInput rules db hint line answer = (report : List ℕ) ×
    IsReportLine rules db hint line report × (answer ≡ report ++ 9 ∷ line)
