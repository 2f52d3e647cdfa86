-- How a run ends that has halted, once what is held back is written.
use Rattle.std.proofs.Common.{◌≡◌, ◌⊎◌, ◌+◌, ℕ, List, [], length, Option, Result, Ok, Err, ap, refl}
use Rattle.std.proofs.lemmas.List.{append-nil}
use Rattle.std.specs.Prelude.{⊤}
use Rattle.phone_device.specs.Passing.{Holds, IsAtEnd, Passes}
use Rattle.phone_lines.specs.Ends.{Devices, most_bytes, seen}
use Rattle.phone_lines.specs.LineReports.{TakesA}
use Rattle.phone_lines.specs.Taken.{Begins, Gives, IsReport, IsReportOnFirst, IsReportSoFar}
use Rattle.phone_lines.specs.TakenEnds.{EndsBy}
use Rattle.phone_lines.specs.TakenEnds.EndsBy.{input_failed, no_memory, output_failed, whole}
use Rattle.phone_lines.specs.Runs.{Halts, IsTakenSoFar}
use Rattle.phone_lines.specs.declared.blocks.RunError.{RunError}
use Rattle.phone_lines.specs.declared.blocks.RunError.TheVariants.{Input, Memory}
use Rattle.phone_lines.proofs.Progress.{Holds-out}
use Rattle.phone_lines.proofs.TakenProgress.{Holds-breaks, IsReportOnFirst-so_far, IsReport-so_far, IsTakenSoFar-first}

module _ {Kept : Type 0} (begins : Begins Kept) (gives : Gives Kept) (first : Kept) (before after : Devices) (bytes held : List ℕ) (last : Kept)
    (read : Passes before.to_come bytes after.to_come) (same : after.sink_faults ≡ before.sink_faults) where
  halts : (end : Result ⊤ RunError) (P : List ℕ → Type 0) →
      ((text : List ℕ) → P text → IsReportSoFar begins gives first after.to_come bytes text) →
      ((taken : Option (List ℕ)) → TakesA P before.taken taken →
      EndsBy begins gives first before (seen after.to_come after.source_faults taken after.sink_faults 0) last end) →
      Holds P held before.taken after.taken → Halts begins gives first before after held last end
  halts end P so_far ends holds = record {
    written = λ taken t. ends taken (Holds-out taken holds t);
    broken = λ taken unflushed f. output_failed (record {
      bytes = bytes;
      read = read;
      beginning = Holds-breaks begins gives first after.to_come bytes so_far holds f;
      sink_fault = ap (λ n. n + 1) same;
    });
  }

  -- all was read and answered
  pub whole_held : IsAtEnd after.to_come → after.source_faults ≡ before.source_faults →
      Holds (IsReport begins gives first bytes last) held before.taken after.taken → Halts begins gives first before after held last (Ok tt)
  whole_held end none = halts (Ok tt) (IsReport begins gives first bytes last) (λ text. IsReport-so_far begins gives first after.to_come bytes last text end)
      (λ taken t. whole (record { bytes = bytes; read = read; end = end; report = t; handed_on = refl; no_source_fault = none; no_sink_fault = same }))

  -- the source failed, or gave as many bytes as are read
  pub input_held : (line : List ℕ) → (after.source_faults ≡ before.source_faults + 1) ⊎ (length bytes ≡ most_bytes) →
      Holds (IsTakenSoFar begins gives first bytes line last) held before.taken after.taken → Halts begins gives first before after held last (Err Input)
  input_held line cause = halts (Err Input) (IsTakenSoFar begins gives first bytes line last)
      (λ text s. IsReportOnFirst-so_far begins gives first after.to_come bytes text
      (IsTakenSoFar-first begins gives first bytes [] bytes line last text (append-nil bytes) s))
      (λ taken t. input_failed (record {
        bytes = bytes;
        read = read;
        cause = cause;
        report = (t.0, (t.1.lines, line, t.1.cut, t.1.taken), t.2);
        handed_on = refl;
        no_sink_fault = same;
      }))

  -- memory was refused
  pub memory_held : after.source_faults ≡ before.source_faults → Holds (IsReportOnFirst begins gives first bytes) held before.taken after.taken →
      Halts begins gives first before after held last (Err Memory)
  memory_held none = halts (Err Memory) (IsReportOnFirst begins gives first bytes) (IsReportOnFirst-so_far begins gives first after.to_come bytes)
      (λ taken t. no_memory (record { bytes = bytes; read = read; report = t; handed_on = refl; no_source_fault = none; no_sink_fault = same }))
