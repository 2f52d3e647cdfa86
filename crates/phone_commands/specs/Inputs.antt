-- The inputs of a call, one after the other.
use Rattle.std.specs.Prelude.{◌≡◌, ℕ, ⊤, List, [], ◌∷◌, ◌++◌, codes, Result, Ok, Err}
use Rattle.std.specs.Borrow.{Bor}
use Rattle.phone_device.specs.Passing.{untold}
use Rattle.phone_commands.specs.declared.inputs.Failure.{Failure}
use Rattle.phone_commands.specs.declared.inputs.Failure.TheVariants.{In, Unopened}
use Rattle.phone_commands.specs.declared.jobs.JobError.{JobError}
use Rattle.phone_lines.specs.Ends.{Devices}

-- the name of an input
abbrev pub Name : Type 0
Name = Bor (List ℕ)

-- a name is standard input's
abbrev pub IsStandard : Name → Type 0
IsStandard name = name.now ≡ codes "-"

-- these devices, but that the source is a file, which tells nothing of its bytes, and failed so
-- often
abbrev pub of_file : Devices → ℕ → Devices
of_file d faults = record {
  to_come = untold;
  source_faults = faults;
  taken = d.taken;
  sink_faults = d.sink_faults;
  unflushed = d.unflushed;
}

-- an input's end, with its name where it failed
abbrev pub failed_in : Name → Result ⊤ JobError → Result ⊤ Failure
failed_in name (Ok done) = Ok tt
failed_in name (Err e) = Err (In name e)

-- an input is answered so, from what is kept before it to what is kept then, where `acts` tells how
-- a job answers: standard input; a file, whose bytes nobody tells; or a file that can't be opened,
-- and then nothing is done
pub data IsAnswered {Kept : Type 0}
    (acts : Kept → Devices → Devices → Kept → Result ⊤ JobError → Type 0) (name : Name)
    (first : Kept) (before after : Devices) (last : Kept) : Result ⊤ Failure → Type 0 where
  standard : (end : Result ⊤ JobError) → IsStandard name → acts first before after last end →
      IsAnswered acts name first before after last (failed_in name end)
  file : (end : Result ⊤ JobError) (faults : ℕ) → ¬ (IsStandard name) →
      acts first (of_file before 0) (of_file after faults) last end →
      after.to_come ≡ before.to_come → after.source_faults ≡ before.source_faults →
      IsAnswered acts name first before after last (failed_in name end)
  unopened : ¬ (IsStandard name) → after ≡ before → last ≡ first →
      IsAnswered acts name first before after last (Err (Unopened name))

-- inputs are answered, one after the other, each from what is kept and written then
pub data AreAnswered {Kept : Type 0}
    (acts : Kept → Devices → Devices → Kept → Result ⊤ JobError → Type 0) (first : Kept)
    (before : Devices) : List Name → Devices → Kept → Type 0 where
  none : AreAnswered acts first before [] before first
  next : (names : List Name) (between : Devices) (kept : Kept) (name : Name) (after : Devices)
      (last : Kept) → AreAnswered acts first before names between kept →
      IsAnswered acts name kept between after last (Ok tt) →
      AreAnswered acts first before (names ++ name ∷ []) after last

-- a call's inputs end so: all are answered, or some first ones are, and the next one fails
pub data InputsEnd {Kept : Type 0}
    (acts : Kept → Devices → Devices → Kept → Result ⊤ JobError → Type 0) (names : List Name)
    (first : Kept) (before after : Devices) (last : Kept) : Result ⊤ Failure → Type 0 where
  whole : AreAnswered acts first before names after last →
      InputsEnd acts names first before after last (Ok tt)
  failed : (front rest : List Name) (name : Name) (between : Devices) (kept : Kept)
      (failure : Failure) → names ≡ front ++ name ∷ rest →
      AreAnswered acts first before front between kept →
      IsAnswered acts name kept between after last (Err failure) →
      InputsEnd acts names first before after last (Err failure)
