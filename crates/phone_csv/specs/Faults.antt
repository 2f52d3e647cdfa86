-- How often a sink failed, by what was answered.
use Rattle.std.specs.Prelude.{ℕ, Result, Ok, Err}
use Rattle.phone_csv.specs.declared.blocks.RunError.{RunError}
use Rattle.phone_csv.specs.declared.blocks.RunError.TheVariants as error
use Rattle.phone_csv.specs.declared.pending_output.Stop.{Stop}
use Rattle.phone_csv.specs.declared.pending_output.Stop.TheVariants.{Fault, Memory, Record}

-- the faults of a sink that took a block: one where that stopped it
abbrev pub faults_of : {X : Type 0} → Result X Stop → ℕ
faults_of (Ok x) = 0
faults_of (Err Fault) = 1
faults_of (Err Record) = 0
faults_of (Err Memory) = 0

-- the faults of a sink in a run: one where that ended it
abbrev pub sink_faults_of : {X : Type 0} → Result X RunError → ℕ
sink_faults_of (Ok x) = 0
sink_faults_of (Err error.Input) = 0
sink_faults_of (Err error.Output) = 1
sink_faults_of (Err (error.Record feeds)) = 0
sink_faults_of (Err (error.Quote line)) = 0
sink_faults_of (Err error.Memory) = 0
