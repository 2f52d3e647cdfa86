-- How a run ends over lines that are taken in their turn.
use Rattle.std.specs.Prelude.{◌≡◌, ◌⊎◌, ℕ, ◌+◌, List, length, Result, Ok, Err, ⊤}
use Rattle.phone_device.specs.Passing.{IsAtEnd, Passes}
use Rattle.phone_lines.specs.Ends.{Devices, most_bytes}
use Rattle.phone_lines.specs.LineReports.{TakesA}
use Rattle.phone_lines.specs.Taken.{BreaksOff, IsReport, IsReportOnEnded, IsReportOnFirst}
use Rattle.phone_lines.specs.declared.blocks.RunError.{RunError}
use Rattle.phone_lines.specs.declared.blocks.RunError.TheVariants.{Input, Memory, Output}

-- all was read, and the report on it taken and handed on; no device failed
pub record IsWhole {Kept : Type 0} (begins : Kept → List ℕ → Kept → Type 0)
    (gives : Kept → List ℕ → List ℕ → Kept → Type 0) (first : Kept) (before after : Devices)
    (last : Kept) : Type 0 where
  pub bytes : List ℕ
  pub read : Passes before.to_come bytes after.to_come
  pub end : IsAtEnd after.to_come
  pub report : TakesA (IsReport begins gives first bytes last) before.taken after.taken
  pub handed_on : after.unflushed ≡ 0
  pub no_source_fault : after.source_faults ≡ before.source_faults
  pub no_sink_fault : after.sink_faults ≡ before.sink_faults

-- the source failed, or gave as many bytes as are read at most; the report on the lines that a line
-- feed ended was taken and handed on
pub record InputFailed {Kept : Type 0} (begins : Kept → List ℕ → Kept → Type 0)
    (gives : Kept → List ℕ → List ℕ → Kept → Type 0) (first : Kept) (before after : Devices)
    (last : Kept) : Type 0 where
  pub bytes : List ℕ
  pub read : Passes before.to_come bytes after.to_come
  pub cause : (after.source_faults ≡ before.source_faults + 1) ⊎ (length bytes ≡ most_bytes)
  pub report : TakesA (IsReportOnEnded begins gives first bytes last) before.taken after.taken
  pub handed_on : after.unflushed ≡ 0
  pub no_sink_fault : after.sink_faults ≡ before.sink_faults

-- the sink failed; a beginning of the report was taken
pub record OutputFailed {Kept : Type 0} (begins : Kept → List ℕ → Kept → Type 0)
    (gives : Kept → List ℕ → List ℕ → Kept → Type 0) (first : Kept)
    (before after : Devices) : Type 0 where
  pub bytes : List ℕ
  pub read : Passes before.to_come bytes after.to_come
  pub beginning : BreaksOff begins gives first after.to_come bytes before.taken after.taken
  pub sink_fault : after.sink_faults ≡ before.sink_faults + 1

-- memory was refused; the report on some first lines was taken and handed on, and no device failed
pub record NoMemory {Kept : Type 0} (begins : Kept → List ℕ → Kept → Type 0)
    (gives : Kept → List ℕ → List ℕ → Kept → Type 0) (first : Kept)
    (before after : Devices) : Type 0 where
  pub bytes : List ℕ
  pub read : Passes before.to_come bytes after.to_come
  pub report : TakesA (IsReportOnFirst begins gives first bytes) before.taken after.taken
  pub handed_on : after.unflushed ≡ 0
  pub no_source_fault : after.source_faults ≡ before.source_faults
  pub no_sink_fault : after.sink_faults ≡ before.sink_faults

-- a run from what is kept first ends in one of four ways, which its result tells; the last that is
-- kept is told where all lines that were answered are written
pub data EndsBy {Kept : Type 0} (begins : Kept → List ℕ → Kept → Type 0)
    (gives : Kept → List ℕ → List ℕ → Kept → Type 0) (first : Kept) (before after : Devices)
    (last : Kept) : Result ⊤ RunError → Type 0 where
  whole : IsWhole begins gives first before after last →
      EndsBy begins gives first before after last (Ok tt)
  input_failed : InputFailed begins gives first before after last →
      EndsBy begins gives first before after last (Err Input)
  output_failed : OutputFailed begins gives first before after →
      EndsBy begins gives first before after last (Err Output)
  no_memory : NoMemory begins gives first before after →
      EndsBy begins gives first before after last (Err Memory)
