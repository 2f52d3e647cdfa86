-- How far a run over lines is, and how it halts.
use Rattle.std.specs.Prelude.{ℕ, ◌+◌, List, Option, Result, Err, ⊤}
use Rattle.phone_device.specs.Passing.{Holds, Takes, TakesFront}
use Rattle.phone_lines.specs.Ends.{Devices, seen}
use Rattle.phone_lines.specs.Lines.{AreCut}
use Rattle.phone_lines.specs.LineReports.{AreAnswers}
use Rattle.phone_lines.specs.Taken.{AreTaken, Begins, Gives}
use Rattle.phone_lines.specs.TakenEnds.{EndsBy}
use Rattle.phone_lines.specs.declared.blocks.RunError.{RunError}
use Rattle.phone_lines.specs.declared.blocks.RunError.TheVariants.{Output}

-- so far these bytes were read, of which the last piece isn't ended yet, and these answers given to
-- the other lines
pub record IsSoFar (gives : List ℕ → List ℕ → Type 0) (bytes line answers : List ℕ) : Type 0 where
  pub lines : List (List ℕ)
  pub cut : AreCut bytes lines line
  pub answered : AreAnswers gives lines answers

-- the same where lines are taken in their turn, with what is kept now
pub record IsTakenSoFar {Kept : Type 0} (begins : Kept → List ℕ → Kept → Type 0)
    (gives : Kept → List ℕ → List ℕ → Kept → Type 0) (first : Kept) (bytes line : List ℕ)
    (kept : Kept) (answers : List ℕ) : Type 0 where
  pub lines : List (List ℕ)
  pub cut : AreCut bytes lines line
  pub taken : AreTaken begins gives first lines answers kept

-- of the answers so far these are held back, and the others were taken by the sink
abbrev pub Stands : {Kept : Type 0} → Begins Kept → Gives Kept → (first : Kept) →
    (bytes line : List ℕ) → (kept : Kept) → (held : List ℕ) → Option (List ℕ) → Option (List ℕ) →
    Type 0
Stands begins gives first bytes line kept held before after =
    Holds (IsTakenSoFar begins gives first bytes line kept) held before after

-- a run that ends so once what is held back is written and handed on, and by `Output` where the
-- sink fails then
pub record Halts {Kept : Type 0} (begins : Kept → List ℕ → Kept → Type 0)
    (gives : Kept → List ℕ → List ℕ → Kept → Type 0) (first : Kept) (before after : Devices)
    (held : List ℕ) (last : Kept) (end : Result ⊤ RunError) : Type 0 where
  pub written : (taken : Option (List ℕ)) → Takes after.taken held taken →
      EndsBy begins gives first before
      (seen after.to_come after.source_faults taken after.sink_faults 0) last end
  pub broken : (taken : Option (List ℕ)) (unflushed : ℕ) → TakesFront after.taken held taken →
      EndsBy begins gives first before
      (seen after.to_come after.source_faults taken (after.sink_faults + 1) unflushed) last
      (Err Output)
