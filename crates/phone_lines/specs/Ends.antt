-- How a run over lines ends.
use Rattle.std.specs.Prelude.{◌≡◌, ◌⊎◌, ℕ, ◌+◌, ◌-◌, ◌^◌, List, length, Option, Result, Ok, Err}
use Rattle.std.specs.Prelude.{⊤}
use Rattle.phone_device.specs.Passing.{IsAtEnd, Passes}
use Rattle.phone_lines.specs.LineReports.{IsBeginning, IsReport, IsReportOnEnded, IsReportOnFirst}
use Rattle.phone_lines.specs.LineReports.{TakesA}
use Rattle.phone_lines.specs.declared.blocks.RunError.{RunError}
use Rattle.phone_lines.specs.declared.blocks.RunError.TheVariants.{Input, Memory, Output}

-- a source and a sink: the bytes to come and those taken, where they tell them, how often each has
-- failed, and how many writes no flush has handed on
pub record Devices : Type 0 where
  pub to_come : Option (List ℕ)
  pub source_faults : ℕ
  pub taken : Option (List ℕ)
  pub sink_faults : ℕ
  pub unflushed : ℕ

-- the two as a contract sees them
abbrev pub seen : Option (List ℕ) → ℕ → Option (List ℕ) → ℕ → ℕ → Devices
seen to_come source_faults taken sink_faults unflushed = record {
  to_come = to_come;
  source_faults = source_faults;
  taken = taken;
  sink_faults = sink_faults;
  unflushed = unflushed;
}

-- as many bytes as a run reads at most
abbrev pub most_bytes : ℕ
most_bytes = 2 ^ 64 - 1

-- all was read, and the report on it taken and handed on; no device failed
pub record IsWhole (gives : List ℕ → List ℕ → Type 0) (before after : Devices) : Type 0 where
  pub bytes : List ℕ
  pub read : Passes before.to_come bytes after.to_come
  pub end : IsAtEnd after.to_come
  pub report : TakesA (IsReport gives bytes) before.taken after.taken
  pub handed_on : after.unflushed ≡ 0
  pub no_source_fault : after.source_faults ≡ before.source_faults
  pub no_sink_fault : after.sink_faults ≡ before.sink_faults

-- the source failed, or gave as many bytes as are read at most; the report on the lines that a line
-- feed ended was taken and handed on
pub record InputFailed (gives : List ℕ → List ℕ → Type 0) (before after : Devices) : Type 0 where
  pub bytes : List ℕ
  pub read : Passes before.to_come bytes after.to_come
  pub cause : (after.source_faults ≡ before.source_faults + 1) ⊎ (length bytes ≡ most_bytes)
  pub report : TakesA (IsReportOnEnded gives bytes) before.taken after.taken
  pub handed_on : after.unflushed ≡ 0
  pub no_sink_fault : after.sink_faults ≡ before.sink_faults

-- the sink failed; a beginning of the report was taken
pub record OutputFailed (gives : List ℕ → List ℕ → Type 0) (before after : Devices) : Type 0 where
  pub bytes : List ℕ
  pub read : Passes before.to_come bytes after.to_come
  pub beginning : TakesA (IsBeginning gives after.to_come bytes) before.taken after.taken
  pub sink_fault : after.sink_faults ≡ before.sink_faults + 1

-- memory was refused; the report on some first lines was taken and handed on, and no device failed
pub record NoMemory (gives : List ℕ → List ℕ → Type 0) (before after : Devices) : Type 0 where
  pub bytes : List ℕ
  pub read : Passes before.to_come bytes after.to_come
  pub report : TakesA (IsReportOnFirst gives bytes) before.taken after.taken
  pub handed_on : after.unflushed ≡ 0
  pub no_source_fault : after.source_faults ≡ before.source_faults
  pub no_sink_fault : after.sink_faults ≡ before.sink_faults

-- a run ends in one of four ways, which its result tells
pub data Ends (gives : List ℕ → List ℕ → Type 0) (before after : Devices) :
    Result ⊤ RunError → Type 0 where
  whole : IsWhole gives before after → Ends gives before after (Ok tt)
  input_failed : InputFailed gives before after → Ends gives before after (Err Input)
  output_failed : OutputFailed gives before after → Ends gives before after (Err Output)
  no_memory : NoMemory gives before after → Ends gives before after (Err Memory)
