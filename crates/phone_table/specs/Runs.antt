-- How a run over a table of customers ends.
use Rattle.std.specs.Prelude.{◌≡◌, ℕ, ⊤, List, Option, None, Some, Result, Ok, Err, option_map}
use Rattle.std.specs.Prelude.{true, false, [], ◌++◌, if◌then◌else◌}
use Rattle.csv.specs.Records.{Row, fields_of}
use Rattle.phone_device.specs.Passing.{IsAtEnd}
use Rattle.phone_csv.specs.Firsts.{EndsNoFirst, first_in}
use Rattle.phone_csv.specs.Formats.{Record, is_delimiter}
use Rattle.phone_csv.specs.Quotes.{IsOpenHeader}
use Rattle.phone_csv.specs.RecordReports.{Writes}
use Rattle.phone_csv.specs.Runs.{OfRead}
use Rattle.phone_csv.specs.declared.blocks.RunError.{RunError}
use Rattle.phone_csv.specs.declared.blocks.RunError.TheVariants as rows
use Rattle.phone_csv.specs.declared.first.FirstError.{FirstError}
use Rattle.phone_csv.specs.declared.format.Format.{Format}
use Rattle.phone_csv.specs.declared.first.FirstError.TheVariants.{Absent, Input, Memory, Quote}
use Rattle.phone_lines.specs.Ends.{Devices}
use Rattle.phone_records.specs.declared.loader.Metadata.{Metadata}
use Rattle.phone_values.specs.declared.country.Id.{Id}
use Rattle.phone_values.specs.declared.rules.Rules.{Rules}
use Rattle.phone_table.specs.Answers.{IsAnswerOf, IsOfOtherWidth}
use Rattle.phone_table.specs.Rows.{WritesKept, WritesSome}
use Rattle.phone_table.specs.Duplicates.{duplicate_names}
use Rattle.phone_table.specs.Ends.{Ends, IsUntouched, SourceFails}
use Rattle.phone_table.specs.Headers.{added_names}
use Rattle.phone_table.specs.Headers.{behind, columns_of, first_taken}
use Rattle.phone_table.specs.Summed.{IsSummed}
use Rattle.phone_table.specs.Tables.{IsHeaderAlone}
use Rattle.phone_table.specs.Unwritten.{IsUnwritten, WritesNone}
use Rattle.phone_table.specs.declared.header.ColumnError.{ColumnError}
use Rattle.phone_table.specs.declared.header.Columns.{Columns}
use Rattle.phone_table.specs.declared.run.Asked.{Asked}
use Rattle.phone_table.specs.declared.run.TableError.{TableError}
use Rattle.phone_table.specs.declared.summed.Totals.{Totals}
use Rattle.phone_table.specs.declared.run.TableError.TheVariants.{Delimiter, Header}
use Rattle.phone_table.specs.declared.run.TableError.TheVariants.{NoColumn, Rows, Taken}

-- the names that are put behind a header: those of duplicates, where they are told, and the others,
-- each behind these letters
abbrev pub names_in : Asked → Record
names_in asked =
    behind asked.front.now (if asked.tells_duplicates then duplicate_names else []) ++
    added_names asked.front.now asked.extra.now

-- the columns of a header that are asked for
abbrev pub columns_in : Asked → Record → Result Columns ColumnError
columns_in asked header =
    columns_of header asked.number.now (option_map (λ name. name.now) asked.region)

-- these names aren't put behind a header: the first one that stands there already is told, or
-- memory was refused
abbrev pub IsRefused : (header added : Record) → TableError → Type 0
IsRefused header added (Taken name) = first_taken header added ≡ Some name.items
IsRefused header added (Rows rows.Memory) = ⊤
IsRefused header added other = ⊥

-- no header was read, for this reason
pub data NoHeader (delimiter : ℕ) (before after : Devices) : FirstError → Type 0 where
  absent : OfRead before.to_come after.to_come (λ bytes. first_in delimiter bytes ≡ None) →
      IsAtEnd after.to_come → after.source_faults ≡ before.source_faults →
      NoHeader delimiter before after Absent
  input : OfRead before.to_come after.to_come (EndsNoFirst delimiter) →
      SourceFails before after → NoHeader delimiter before after Input
  quote : (line : ℕ) → OfRead before.to_come after.to_come (IsOpenHeader delimiter line) →
      IsAtEnd after.to_come → after.source_faults ≡ before.source_faults →
      NoHeader delimiter before after (Quote line)
  memory : OfRead before.to_come after.to_come (EndsNoFirst delimiter) →
      after.source_faults ≡ before.source_faults → NoHeader delimiter before after Memory

-- a header was read, and no more, and nothing was written
pub record ReadsHeader (delimiter : ℕ) (header : Record) (before after : Devices) : Type 0 where
  pub read : OfRead before.to_come after.to_come (IsHeaderAlone delimiter header)
  pub no_source_fault : after.source_faults ≡ before.source_faults
  pub untouched : IsUntouched before after

-- what is written for the records of a table with these columns: each with its answer, by what is
-- asked for, those left out whose key an earlier one has, where each number is kept once, or with
-- the columns of duplicates; all are counted, and summed where a summary is asked for
abbrev pub WritesTable : Rules → List Metadata → Option Id → Columns → Asked → Totals → Format →
    Writes
WritesTable rules db hint columns asked totals =
    WritesKept (IsAnswerOf rules db hint columns asked) asked.tells_duplicates asked.is_unique
    (λ all. IsSummed asked all totals.summary) totals.counts

-- the same, whatever its counts and its summary
abbrev pub WritesSomeTable : Rules → List Metadata → Option Id → Columns → Asked → Format → Writes
WritesSomeTable rules db hint columns asked =
    WritesSome (IsAnswerOf rules db hint columns asked) asked.tells_duplicates asked.is_unique

-- the run over the rows behind a header ends so, each answered by the region that it names, and
-- counted; with the columns of duplicates nothing is written before all is read
pub data RowsEnd (rules : Rules) (db : List Metadata) (hint : Option Id) (columns : Columns)
    (asked : Asked) (header : Record) (before after : Devices) :
    Result Totals RunError → Type 0 where
  whole : (totals : Totals) →
      Ends header (names_in asked) (WritesTable rules db hint columns asked totals)
      (WritesSomeTable rules db hint columns asked) (IsOfOtherWidth columns asked)
      asked.delimiter before after (Ok tt) →
      RowsEnd rules db hint columns asked header before after (Ok totals)
  broken_off : (totals : Totals) (e : RunError) →
      Ends header (names_in asked) (WritesTable rules db hint columns asked totals)
      (WritesSomeTable rules db hint columns asked) (IsOfOtherWidth columns asked)
      asked.delimiter before after (Err e) →
      RowsEnd rules db hint columns asked header before after (Err e)
  unwritten : (e : RunError) → asked.tells_duplicates ≡ true → IsUntouched before after →
      IsUnwritten header (names_in asked) (WritesNone (IsAnswerOf rules db hint columns asked))
      (IsOfOtherWidth columns asked) asked.delimiter before after e →
      RowsEnd rules db hint columns asked header before after (Err e)

-- how the run over the rows ended, as the end of that over the table
abbrev pub rows_result : Result Totals RunError → Result Totals TableError
rows_result (Ok totals) = Ok totals
rows_result (Err e) = Err (Rows e)

-- a run over a table ends so, which its result tells: under a delimiter that is none nothing is
-- read; nothing is written without a header, without the one column of each name that is asked for,
-- or where a name that is put behind the header stands there already; else as the run over its rows
-- ends
pub data RunEnds (rules : Rules) (db : List Metadata) (hint : Option Id) (asked : Asked)
    (before after : Devices) : Result Totals TableError → Type 0 where
  no_delimiter : is_delimiter asked.delimiter ≡ false → after ≡ before →
      RunEnds rules db hint asked before after (Err Delimiter)
  no_header : (e : FirstError) → is_delimiter asked.delimiter ≡ true →
      NoHeader asked.delimiter before after e → IsUntouched before after →
      RunEnds rules db hint asked before after (Err (Header e))
  no_column : (e : ColumnError) (header : Row) → is_delimiter asked.delimiter ≡ true →
      ReadsHeader asked.delimiter (fields_of header) before after →
      columns_in asked (fields_of header) ≡ Err e →
      RunEnds rules db hint asked before after (Err (NoColumn e header))
  no_names : (header : Record) (columns : Columns) (e : TableError) →
      is_delimiter asked.delimiter ≡ true →
      ReadsHeader asked.delimiter header before after → columns_in asked header ≡ Ok columns →
      IsRefused header (names_in asked) e → RunEnds rules db hint asked before after (Err e)
  answered : (header : Record) (columns : Columns) (result : Result Totals RunError) →
      is_delimiter asked.delimiter ≡ true → columns_in asked header ≡ Ok columns →
      first_taken header (names_in asked) ≡ None →
      RowsEnd rules db hint columns asked header before after result →
      RunEnds rules db hint asked before after (rows_result result)
