-- What the job of a table does with an input.
use Rattle.std.specs.Prelude.{◌≡◌, ⊤, List, Option, Result, Ok, Err}
use Rattle.phone_csv.specs.declared.blocks.RunError.TheVariants as rows
use Rattle.phone_csv.specs.declared.first.FirstError.TheVariants as header
use Rattle.phone_commands.specs.declared.jobs.JobError.{JobError}
use Rattle.phone_commands.specs.declared.jobs.JobError.TheVariants as job
use Rattle.phone_lines.specs.Ends.{Devices}
use Rattle.phone_records.specs.declared.loader.Metadata.{Metadata}
use Rattle.phone_table.specs.Runs.{RunEnds}
use Rattle.phone_table.specs.declared.run.Asked.{Asked}
use Rattle.phone_table.specs.declared.run.TableError.{TableError}
use Rattle.phone_table.specs.declared.run.TableError.TheVariants as table
use Rattle.phone_table.specs.declared.summed.Totals.{Totals}
use Rattle.phone_values.specs.declared.country.Id.{Id}
use Rattle.phone_values.specs.declared.rules.Rules.{Rules}

-- why a table was not answered whole, as a job's error
abbrev pub table_error : TableError → JobError
table_error (table.Header header.Input) = job.Input
table_error (table.Header header.Memory) = job.Memory
table_error (table.Header header.Absent) = job.Table (table.Header header.Absent)
table_error (table.Header (header.Quote line)) = job.Table (table.Header (header.Quote line))
table_error (table.Rows rows.Input) = job.Input
table_error (table.Rows rows.Output) = job.Output
table_error (table.Rows rows.Memory) = job.Memory
table_error (table.Rows (rows.Record feeds)) = job.Table (table.Rows (rows.Record feeds))
table_error (table.Rows (rows.Quote line)) = job.Table (table.Rows (rows.Quote line))
table_error table.Delimiter = job.Table table.Delimiter
table_error (table.NoColumn e fields) = job.Table (table.NoColumn e fields)
table_error (table.Taken name) = job.Table (table.Taken name)

-- a run over a table as a job's end: its counts and its summary are told where it is whole
pub data IsTableEnd (totals : Totals) : Result Totals TableError → Result ⊤ JobError → Type 0 where
  whole : IsTableEnd totals (Ok totals) (Ok tt)
  refused : (e : TableError) → IsTableEnd totals (Err e) (Err (table_error e))

-- an input is answered as a table
abbrev pub AnswersTable : Rules → List Metadata → Option Id → Asked → Devices → Devices → Totals →
    Result ⊤ JobError → Type 0
AnswersTable rules db hint asked before after totals result = (run : Result Totals TableError) ×
    RunEnds rules db hint asked before after run × IsTableEnd totals run result
