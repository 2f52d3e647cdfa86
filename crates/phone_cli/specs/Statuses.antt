-- The statuses that the program ends with.
use Rattle.std.specs.Prelude.{ℕ, ⊤, Bool, not, ◌&&◌, if◌then◌else◌, Result, Ok, Err, is_some}
use Rattle.phone_csv.specs.declared.blocks.RunError.TheVariants as rows
use Rattle.phone_csv.specs.declared.first.FirstError.TheVariants as header
use Rattle.phone_commands.specs.declared.inputs.Failure.{Failure}
use Rattle.phone_commands.specs.declared.inputs.Failure.TheVariants.{In, Unopened}
use Rattle.phone_commands.specs.declared.jobs.JobError.{JobError}
use Rattle.phone_commands.specs.declared.jobs.JobError.TheVariants as job
use Rattle.phone_commands.specs.declared.strays.Strays.{Strays}
use Rattle.phone_table.specs.declared.run.TableError.{TableError}
use Rattle.phone_table.specs.declared.run.TableError.TheVariants as table
use Rattle.phone_words.specs.declared.parts.Why.{Why}
use Rattle.phone_words.specs.declared.parts.Why.TheVariants as why

-- the status for words that are no call: 1 where there was no memory for them
abbrev pub status_of_words : Why → ℕ
status_of_words why.Memory = 1
status_of_words other = 2

-- the status for a table that was not answered whole: 1 where a record has another count of fields
-- than the header, or a quote is never closed; 2 where a header or a column is missing
abbrev pub status_of_table : TableError → ℕ
status_of_table (table.Rows (rows.Record feeds)) = 1
status_of_table (table.Rows (rows.Quote line)) = 1
status_of_table (table.Header (header.Quote line)) = 1
status_of_table other = 2

-- the status for an input that was not answered whole: 2 where it is UTF-16
abbrev pub status_of_input : JobError → ℕ
status_of_input job.Utf16 = 2
status_of_input (job.Table e) = status_of_table e
status_of_input other = 1

-- the status for inputs that were not all answered whole
abbrev pub status_of_failure : Failure → ℕ
status_of_failure (Unopened name) = 1
status_of_failure (In name e) = status_of_input e

-- the status after inputs that were all answered whole: 1 where something in them isn't UTF-8,
-- unless a call is lenient
abbrev pub status_of_strays : (lenient : Bool) → Strays → ℕ
status_of_strays lenient s = if is_some s.first && not lenient then 1 else 0

-- the status after the inputs, with what isn't UTF-8 in them
abbrev pub status_of : (lenient : Bool) → Strays → Result ⊤ Failure → ℕ
status_of lenient s (Ok done) = status_of_strays lenient s
status_of lenient s (Err failure) = status_of_failure failure
