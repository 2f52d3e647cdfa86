-- Why nothing is written of a table with the columns of duplicates: all is read before.
use Rattle.std.specs.Prelude.{◌≡◌, ℕ, List, [], Option, Err}
use Rattle.phone_csv.specs.Formats.{Record}
use Rattle.phone_csv.specs.RecordReports.{Writes}
use Rattle.phone_csv.specs.declared.blocks.RunError.{RunError}
use Rattle.phone_csv.specs.declared.blocks.RunError.TheVariants.{Memory}
use Rattle.phone_csv.specs.declared.format.Format.{Format}
use Rattle.phone_device.specs.Passing.{PassesSome, untold}
use Rattle.phone_lines.specs.Ends.{Devices, seen}
use Rattle.phone_table.specs.Answered.{Answered, AreAnswered}
use Rattle.phone_table.specs.Ends.{Ends}
use Rattle.phone_values.specs.declared.reading.Reading.{Reading}

-- devices with a sink that takes all bytes and tells none, of which so many writes aren't handed on
abbrev pub without_sink : Devices → ℕ → Devices
without_sink d unflushed = seen d.to_come d.source_faults untold 0 unflushed

-- records are answered, and no row is written for them
abbrev pub WritesNone : (Record → Option Reading → Record → Type 0) → Format → Writes
WritesNone gives format records text =
    (all : List Answered) × AreAnswered gives records all × (text ≡ [])

-- nothing is written, for this reason: a run over the records that writes no row breaks off by it,
-- or memory is refused
pub data IsUnwritten (header added : Record) (writes : Format → Writes) (refuses : Record → Type 0)
    (delimiter : ℕ) (before after : Devices) : RunError → Type 0 where
  broken_off : (unflushed : ℕ) (e : RunError) →
      Ends header added writes writes refuses delimiter (without_sink before 0)
      (without_sink after unflushed) (Err e) →
      IsUnwritten header added writes refuses delimiter before after e
  no_memory : PassesSome before.to_come after.to_come →
      after.source_faults ≡ before.source_faults →
      IsUnwritten header added writes refuses delimiter before after Memory
