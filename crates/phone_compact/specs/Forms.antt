-- Forms: how the values of a type are written as bytes, and which values have that form. What is
-- written tells where it ends, so that things can be written one after another.
use Rattle.std.specs.Prelude.{◌≡◌, ℕ, ◌/◌, ◌%◌, ◌<◌, Bool, true, false, List, [], ◌∷◌, ◌++◌}
use Rattle.std.specs.Prelude.{⊤, Option, Some, None, length, replicate, IsUtf8}

-- what is written for a value, and whether a value has the form at all
pub record Form (A : Type 0) : Type 1 where
  pub written : A → List ℕ
  pub holds : A → Type 0

-- a number: 255 as often as it can be taken off, and then what is left, which is less
abbrev pub number_written : ℕ → List ℕ
number_written n = replicate (n / 255) 255 ++ (n % 255 ∷ [])

-- a number of 16 bits
abbrev pub number : Form ℕ
number = record { written = number_written; holds = λ n. n < 65536 }

-- 1 for true, 0 for false
abbrev pub truth_written : Bool → List ℕ
truth_written false = 0 ∷ []
truth_written true = 1 ∷ []

-- a truth value; each has the form
abbrev pub truth : Form Bool
truth = record { written = truth_written; holds = λ b. ⊤ }

-- a text: how many bytes it has, and its bytes, which are UTF-8
abbrev pub text : Form (List ℕ)
text = record { written = λ t. number_written (length t) ++ t; holds = IsUtf8 }

-- 0 where nothing is, and otherwise 1 and the value
abbrev pub option_written : {A : Type 0} → (A → List ℕ) → Option A → List ℕ
option_written written None = 0 ∷ []
option_written written (Some x) = 1 ∷ written x

-- what is absent has the form, and what is there where its value has it
abbrev pub option_holds : {A : Type 0} → (A → Type 0) → Option A → Type 0
option_holds holds None = ⊤
option_holds holds (Some x) = holds x

-- what may be absent
abbrev pub option : {A : Type 0} → Form A → Form (Option A)
option form = record {
  written = option_written form.written;
  holds = option_holds form.holds;
}

-- 1 and an item, for each item, and then 0
abbrev pub items_written : {A : Type 0} → (A → List ℕ) → List A → List ℕ
items_written written [] = 0 ∷ []
items_written written (x ∷ xs) = 1 ∷ (written x ++ items_written written xs)

-- each item has the form
abbrev pub items_hold : {A : Type 0} → (A → Type 0) → List A → Type 0
items_hold holds [] = ⊤
items_hold holds (x ∷ xs) = holds x × items_hold holds xs

-- a list
abbrev pub items : {A : Type 0} → Form A → Form (List A)
items form = record {
  written = items_written form.written;
  holds = items_hold form.holds;
}

infixr 20 ◌then◌
-- two things: the first, and then the second
abbrev pub ◌then◌ : {A B : Type 0} → Form A → Form B → Form (A × B)
first then second = record {
  written = λ both. first.written both.0 ++ second.written both.1;
  holds = λ both. first.holds both.0 × second.holds both.1;
}

-- a record is written as its fields
abbrev pub seen_as : {A B : Type 0} → (A → B) → Form B → Form A
seen_as fields form = record {
  written = λ x. form.written (fields x);
  holds = λ x. form.holds (fields x);
}

-- the form is read in one way: of bytes that begin with a value, the value and what follows it are
-- determined
abbrev pub IsUnique : {A : Type 0} → Form A → Type 0
IsUnique {A} form = (x y : A) (after_x after_y : List ℕ) →
    form.written x ++ after_x ≡ form.written y ++ after_y → (x ≡ y) × (after_x ≡ after_y)
