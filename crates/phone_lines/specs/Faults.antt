-- What a refusal tells: how often a sink failed, and its number.
use Rattle.std.specs.Prelude.{ℕ, Result, Ok, Err}
use Rattle.phone_lines.specs.declared.pending_output.Refusal.{Refusal}
use Rattle.phone_lines.specs.declared.pending_output.Refusal.TheVariants.{Fault, Memory}
use Rattle.phone_lines.specs.declared.blocks.RunError.{RunError}
use Rattle.phone_lines.specs.declared.blocks.RunError.TheVariants.{Input, Output}
use Rattle.phone_lines.specs.declared.blocks.RunError.TheVariants.{Memory as NoMemory}

-- the faults of a sink that took a block: one where that was the refusal
abbrev pub faults_of : {X : Type 0} → Result X Refusal → ℕ
faults_of (Ok x) = 0
faults_of (Err Fault) = 1
faults_of (Err Memory) = 0

-- which of the refusals it is
abbrev pub number_of : RunError → ℕ
number_of Input = 1
number_of Output = 2
number_of NoMemory = 3
