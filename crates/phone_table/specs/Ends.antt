-- How a run over the rows of a table ends, whatever answers them.
use Rattle.std.specs.Prelude.{◌≡◌, ◌⊎◌, ◌≤◌, ℕ, ◌+◌, ◌-◌, List, length, Result, Ok, Err, ⊤}
use Rattle.csv.specs.declared.parser.State.{State}
use Rattle.phone_device.specs.Passing.{IsAtEnd}
use Rattle.phone_csv.specs.Feeds.{line_feeds}
use Rattle.phone_csv.specs.Formats.{Record}
use Rattle.phone_csv.specs.Quotes.{EndsInQuotes}
use Rattle.phone_csv.specs.RecordReports.{IsReport, IsReportBefore, IsReportOnEnded}
use Rattle.phone_csv.specs.RecordReports.{IsReportOnFirst, Writes}
use Rattle.phone_csv.specs.Runs.{OfRead, TakesA, most_bytes}
use Rattle.phone_csv.specs.declared.blocks.RunError.{RunError}
use Rattle.phone_csv.specs.declared.blocks.RunError.TheVariants as error
use Rattle.phone_csv.specs.declared.format.Format.{Format}
use Rattle.phone_lines.specs.Ends.{Devices}
use Rattle.phone_table.specs.Tables.{IsBeginning, IsHeaderAlone, IsTable}

-- such a report, by what is written for records under a format
abbrev pub by : (Writes → ℕ → State → List ℕ → List ℕ → Type 0) → (Format → Writes) →
    Format → State → List ℕ → List ℕ → Type 0
by is_report writes format = is_report (writes format) format.delimiter

-- what was read is a table with this header, and the text for it was taken, its body being such
abbrev pub Wrote : (header added : Record) → (Format → State → List ℕ → List ℕ → Type 0) → ℕ →
    Devices → Devices → Type 0
Wrote header added is_body delimiter before after = OfRead before.to_come after.to_come
    (λ bytes. TakesA (IsTable header added is_body delimiter bytes) before.taken after.taken)

-- a source failed, or gave as many bytes as are read at most, or more behind a header
abbrev pub SourceFails : Devices → Devices → Type 0
SourceFails before after = (after.source_faults ≡ before.source_faults + 1) ⊎
    OfRead before.to_come after.to_come (λ bytes. most_bytes ≤ length bytes)

-- no device failed
pub record NoFault (before after : Devices) : Type 0 where
  pub source : after.source_faults ≡ before.source_faults
  pub sink : after.sink_faults ≡ before.sink_faults

-- all was read, and each record answered; what was written was handed on
pub record IsWhole (header added : Record) (writes : Format → Writes) (delimiter : ℕ)
    (before after : Devices) : Type 0 where
  pub end : IsAtEnd after.to_come
  pub table : Wrote header added (by IsReport writes) delimiter before after
  pub handed_on : after.unflushed ≡ 0
  pub no_fault : NoFault before after

-- the source failed; the records that are ended were answered
pub record InputFailed (header added : Record) (writes : Format → Writes) (delimiter : ℕ)
    (before after : Devices) : Type 0 where
  pub cause : SourceFails before after
  pub table : Wrote header added (by IsReportOnEnded writes) delimiter before after
  pub handed_on : after.unflushed ≡ 0
  pub no_sink_fault : after.sink_faults ≡ before.sink_faults

-- the sink failed; a beginning of the text for the table was taken
pub record OutputFailed (header added : Record) (some : Format → Writes) (delimiter : ℕ)
    (before after : Devices) : Type 0 where
  pub beginning : OfRead before.to_come after.to_come (λ bytes. TakesA
      (IsBeginning some header added delimiter after.to_come bytes) before.taken after.taken)
  pub sink_fault : after.sink_faults ≡ before.sink_faults + 1

-- a record isn't answered, in front of which so many line feeds stand; those in front of it were
pub record RecordRefused (header added : Record) (writes : Format → Writes)
    (refuses : Record → Type 0) (delimiter feeds : ℕ) (before after : Devices) : Type 0 where
  pub table : OfRead before.to_come after.to_come (λ bytes. TakesA (IsTable header added
      (λ format state rest. IsReportBefore (writes format) refuses delimiter state
      (line_feeds bytes - line_feeds rest) feeds after.to_come rest) delimiter bytes)
      before.taken after.taken)
  pub handed_on : after.unflushed ≡ 0
  pub no_fault : NoFault before after

-- a quote is never closed, which stands on this line, counted from 1; the records that are ended
-- were answered
pub record QuoteOpen (header added : Record) (writes : Format → Writes)
    (delimiter line : ℕ) (before after : Devices) : Type 0 where
  pub end : IsAtEnd after.to_come
  pub table : OfRead before.to_come after.to_come (λ bytes. TakesA (IsTable header added
      (λ format state rest body. IsReportOnEnded (writes format) delimiter state rest body ×
      EndsInQuotes delimiter state (line_feeds bytes - line_feeds rest) line rest)
      delimiter bytes) before.taken after.taken)
  pub handed_on : after.unflushed ≡ 0
  pub no_fault : NoFault before after

-- nothing was written
pub record IsUntouched (before after : Devices) : Type 0 where
  pub taken : after.taken ≡ before.taken
  pub unflushed : after.unflushed ≡ before.unflushed
  pub sink : after.sink_faults ≡ before.sink_faults

-- memory was refused: for the header, which alone was read, or behind some first records, which
-- were answered
pub data NoMemory (header added : Record) (some : Format → Writes) (delimiter : ℕ)
    (before after : Devices) : Type 0 where
  at_header : OfRead before.to_come after.to_come (IsHeaderAlone delimiter header) →
      IsUntouched before after → after.source_faults ≡ before.source_faults →
      NoMemory header added some delimiter before after
  at_record : Wrote header added (by IsReportOnFirst some) delimiter before after →
      after.unflushed ≡ 0 → NoFault before after →
      NoMemory header added some delimiter before after

-- a run over a table whose header was read ends in one of six ways, which its result tells; what is
-- written is told of all records that were taken, and of some where the sink or memory failed
pub data Ends (header added : Record) (writes some : Format → Writes) (refuses : Record → Type 0)
    (delimiter : ℕ) (before after : Devices) : Result ⊤ RunError → Type 0 where
  whole : IsWhole header added writes delimiter before after →
      Ends header added writes some refuses delimiter before after (Ok tt)
  input_failed : InputFailed header added writes delimiter before after →
      Ends header added writes some refuses delimiter before after (Err error.Input)
  output_failed : OutputFailed header added some delimiter before after →
      Ends header added writes some refuses delimiter before after (Err error.Output)
  record_refused : (feeds : ℕ) →
      RecordRefused header added writes refuses delimiter feeds before after →
      Ends header added writes some refuses delimiter before after (Err (error.Record feeds))
  quote_open : (line : ℕ) → QuoteOpen header added writes delimiter line before after →
      Ends header added writes some refuses delimiter before after (Err (error.Quote line))
  no_memory : NoMemory header added some delimiter before after →
      Ends header added writes some refuses delimiter before after (Err error.Memory)
