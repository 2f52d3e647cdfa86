-- What becomes of a buffer into which an answer is to go: of bytes, or of other values.
use Rattle.std.specs.Prelude.{◌≡◌, ℕ, ◌<◌, ◌≤◌, List, ◌++◌, drop, length}

-- the answer is written: the buffer had room for it, begins with it, and is else as it was; its
-- length is told
pub record IsWritten {A : Type 0} (answer before after : List A) (wrote : ℕ) : Type 0 where
  pub room : length answer ≤ length before
  pub text : after ≡ answer ++ drop (length answer) before
  pub told : wrote ≡ length answer

-- the answer is too long: the buffer has no room for it and is as it was; the room that it needs is
-- told
pub record IsTooLong {A : Type 0} (answer before after : List A) (wrote : ℕ) : Type 0 where
  pub no_room : length before < length answer
  pub untouched : after ≡ before
  pub told : wrote ≡ length answer

-- some answer of this kind is written
abbrev pub IsWrittenA : {A : Type 0} → (List A → Type 0) → List A → List A → ℕ → Type 0
IsWrittenA {A} IsAnswer before after wrote =
    (answer : List A) × IsAnswer answer × IsWritten answer before after wrote

-- some answer of this kind is too long
abbrev pub IsTooLongA : {A : Type 0} → (List A → Type 0) → List A → List A → ℕ → Type 0
IsTooLongA {A} IsAnswer before after wrote =
    (answer : List A) × IsAnswer answer × IsTooLong answer before after wrote
