-- Inputs in an encoding.
use Rattle.std.specs.Prelude.{◌≡◌, ℕ, ◌+◌, Bool, false, true, List, Option, Some, None, option_map}
use Rattle.std.specs.Prelude.{Result, Err, ⊤}
use Rattle.phone_commands.specs.Jobs.{Acts}
use Rattle.phone_commands.specs.declared.jobs.JobError.{JobError}
use Rattle.phone_commands.specs.declared.jobs.JobError.TheVariants as job
use Rattle.phone_encodings.specs.Encodings.{decoded}
use Rattle.phone_encodings.specs.Marks.{Marks}
use Rattle.phone_encodings.specs.declared.encoding.Encoding.{Encoding}
use Rattle.phone_lines.specs.Ends.{Devices}

-- these devices, but that in place of the bytes to come their text in UTF-8 is
abbrev pub as_text : Encoding → Devices → Devices
as_text e d = record d { to_come = option_map (decoded e) d.to_come }

-- an input in an encoding other than UTF-8, where there is one, is answered as its text is; no
-- contract tells then how much of it was read, and how often that failed
abbrev pub ActsOn : {Kept : Type 0} → Option Encoding → Acts Kept → Acts Kept
ActsOn None acts first before after last end = acts first before after last end
ActsOn (Some e) acts first before after last end = (to_come : Option (List ℕ)) × (faults : ℕ) ×
    acts first (as_text e before)
    (record after { to_come = to_come; source_faults = faults }) last end

-- an input is answered where it doesn't begin with the mark of UTF-16; where it does, or its first
-- bytes can't be read, nothing is done
pub data ActsUnmarked {Kept : Type 0} (acts : Acts Kept) (first : Kept) (before after : Devices)
    (last : Kept) : Result ⊤ JobError → Type 0 where
  answered : (end : Result ⊤ JobError) → Marks false before.to_come →
      acts first before after last end → ActsUnmarked acts first before after last end
  utf_16 : Marks true before.to_come → after ≡ before → last ≡ first →
      ActsUnmarked acts first before after last (Err job.Utf16)
  unread : after ≡ record before { source_faults = before.source_faults + 1 } → last ≡ first →
      ActsUnmarked acts first before after last (Err job.Input)

-- the same where an input is asked for the mark
abbrev pub Asked : {Kept : Type 0} → (asks : Bool) → Acts Kept → Acts Kept
Asked false acts first before after last end = acts first before after last end
Asked true acts first before after last end = ActsUnmarked acts first before after last end

-- an input is answered in its encoding; in UTF-8 where it doesn't begin with the mark of UTF-16
abbrev pub ActsIn : {Kept : Type 0} → Option Encoding → Acts Kept → Acts Kept
ActsIn None acts first before after last end = ActsUnmarked acts first before after last end
ActsIn (Some e) acts first before after last end =
    ActsOn (Some e) acts first before after last end
