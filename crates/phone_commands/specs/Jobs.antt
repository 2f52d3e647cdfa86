-- What a job does with an input, told by the devices before and after.
use Rattle.std.specs.Prelude.{◌≡◌, ℕ, ⊤, List, Result, Ok, Err}
use Rattle.phone_commands.specs.declared.jobs.JobError.{JobError}
use Rattle.phone_commands.specs.declared.jobs.JobError.TheVariants as job
use Rattle.phone_lines.specs.Ends.{Devices, Ends}
use Rattle.phone_lines.specs.Taken.{Begins, Gives}
use Rattle.phone_lines.specs.TakenEnds.{EndsBy}
use Rattle.phone_lines.specs.declared.blocks.RunError.{RunError}
use Rattle.phone_lines.specs.declared.blocks.RunError.TheVariants as lines

-- how an input is answered: what is kept before, the devices before and after, what is kept then,
-- and the result
abbrev pub Acts : Type 0 → Type 1
Acts Kept = Kept → Devices → Devices → Kept → Result ⊤ JobError → Type 0

-- a run over lines as a job's end
abbrev pub ended : Result ⊤ RunError → Result ⊤ JobError
ended (Ok done) = Ok tt
ended (Err lines.Input) = Err job.Input
ended (Err lines.Output) = Err job.Output
ended (Err lines.Memory) = Err job.Memory

-- an input's lines are answered, each by itself
abbrev pub AnswersLines : (List ℕ → List ℕ → Type 0) → Devices → Devices → Result ⊤ JobError →
    Type 0
AnswersLines gives before after result = (end : Result ⊤ RunError) × Ends gives before after end ×
    (result ≡ ended end)

-- an input's lines are taken in their turn
abbrev pub TakesLines : {Kept : Type 0} → Begins Kept → Gives Kept → (first : Kept) → Devices →
    Devices → (last : Kept) → Result ⊤ JobError → Type 0
TakesLines begins gives first before after last result = (end : Result ⊤ RunError) ×
    EndsBy begins gives first before after last end × (result ≡ ended end)
