-- When bytes are refused.
use Rattle.std.specs.Prelude.{◌≡◌, ◌⊎◌, ℕ, List, ◌++◌}
use Rattle.phone_compact.specs.Forms.{Form, items}
use Rattle.phone_compact.specs.declared.error.NotRead.{NotRead}
use Rattle.phone_compact.specs.declared.error.NotRead.TheVariants as error

-- no value that has the form is written at the head of the bytes
abbrev pub BeginsNone : {A : Type 0} → Form A → List ℕ → Type 0
BeginsNone {A} form bytes = (x : A) (rest : List ℕ) → form.holds x →
    ¬ (bytes ≡ form.written x ++ rest)

-- memory was refused, or there is no such value
abbrev pub IsRefused : {A : Type 0} → Form A → List ℕ → NotRead → Type 0
IsRefused form bytes e = (e ≡ error.Memory) ⊎ BeginsNone form bytes

-- no list of such values is written as the bytes
abbrev pub IsNoList : {A : Type 0} → Form A → List ℕ → Type 0
IsNoList {A} form bytes = (xs : List A) → (items form).holds xs →
    ¬ (bytes ≡ (items form).written xs)
