-- A run over lines whose sink keeps its bytes in memory.
use Rattle.std.proofs.Common.{◌≡◌, ℕ, List, [], Some, Result, Ok, subst, sym}
use Rattle.std.specs.Prelude.{⊤}
use Rattle.phone_csv.specs.Runs.{OfRead}
use Rattle.phone_lines.specs.Ends.{Devices, Ends, IsWhole}
use Rattle.phone_lines.specs.Ends.Ends.{input_failed, no_memory, output_failed, whole}
use Rattle.phone_lines.specs.LineReports.{Gives, IsReport}
use Rattle.phone_lines.specs.declared.blocks.RunError.{RunError}

-- a run that ends without an error is whole
pub whole_of : (gives : Gives) (before after : Devices) (end : Result ⊤ RunError) →
    Ends gives before after end → end ≡ Ok tt → IsWhole gives before after
whole_of gives before after _ (whole w) e = w
whole_of gives before after _ (input_failed w) e = absurd (cc)
whole_of gives before after _ (output_failed w) e = absurd (cc)
whole_of gives before after _ (no_memory w) e = absurd (cc)

some_same : (a b : List ℕ) → Some a ≡ Some b → a ≡ b
some_same a b e = cc

-- what an empty sink has taken then is the report on what was read
pub report_taken : (gives : Gives) (before after : Devices) (taken : List ℕ) →
    IsWhole gives before after → before.taken ≡ Some [] → after.taken ≡ Some taken →
    OfRead before.to_come after.to_come (λ bytes. IsReport gives bytes taken)
report_taken gives before after taken w empty told =
    let takes = rw (empty, told) at w.report.2 in
    let same = some_same taken w.report.0 takes in
    (w.bytes, w.read, subst (λ text. IsReport gives w.bytes text) (sym same) w.report.1)
