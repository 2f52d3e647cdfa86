-- The ways in which a run ends.
use Rattle.std.proofs.Common.{◌≡◌, ℕ, Result, Ok, Err, refl, ap}
use Rattle.phone_csv.specs.declared.blocks.RunError.{RunError}
use Rattle.phone_csv.specs.declared.blocks.RunError.TheVariants as error
use Rattle.phone_csv.specs.declared.blocks.End.{End}
use Rattle.phone_csv.specs.declared.blocks.End.TheVariants as end

-- what follows from each end holds
pub by_end : {A B C D E Q : Type 0} (e : End) → (e ≡ end.Whole → A) → (e ≡ end.Input → B) → (e ≡ end.Record → C) → (e ≡ end.Memory → D) → (e ≡ end.Quote → E) →
    (A → Q) → (B → Q) → (C → Q) → (D → Q) → (E → Q) → Q
by_end end.Whole a b c d e f g h i j = f (a refl)
by_end end.Input a b c d e f g h i j = g (b refl)
by_end end.Record a b c d e f g h i j = h (c refl)
by_end end.Memory a b c d e f g h i j = i (d refl)
by_end end.Quote a b c d e f g h i j = j (e refl)

abbrev feeds_of : {T : Type 0} → Result T RunError → ℕ
feeds_of (Ok x) = 0
feeds_of (Err error.Input) = 0
feeds_of (Err error.Output) = 0
feeds_of (Err (error.Record n)) = n
feeds_of (Err error.Memory) = 0
feeds_of (Err (error.Quote line)) = 0

-- two equal refusals of a record count the same
pub same_feeds : {T : Type 0} (m n : ℕ) → ◌≡◌ {A = Result T RunError} (Err (error.Record m)) (Err (error.Record n)) → m ≡ n
same_feeds m n e = ap feeds_of e

abbrev line_of : {T : Type 0} → Result T RunError → ℕ
line_of (Ok x) = 0
line_of (Err error.Input) = 0
line_of (Err error.Output) = 0
line_of (Err (error.Record n)) = 0
line_of (Err error.Memory) = 0
line_of (Err (error.Quote n)) = n

-- and two equal refusals of a quote tell the same line
pub same_line : {T : Type 0} (m n : ℕ) → ◌≡◌ {A = Result T RunError} (Err (error.Quote m)) (Err (error.Quote n)) → m ≡ n
same_line m n e = ap line_of e
