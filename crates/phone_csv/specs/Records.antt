-- The records of a text.
use Rattle.std.specs.Prelude.{◌≡◌, ℕ, Bool, List, [], ◌∷◌, ◌++◌, true, false}
use Rattle.csv.specs.Machine.{Feeds}
use Rattle.csv.specs.declared.parser.State.{State}
use Rattle.csv.specs.declared.parser.State.TheVariants as st
use Rattle.phone_csv.specs.Formats.{Record, reading}

-- a part of a text is one record, which its last byte ends, and leaves the reader in this state
abbrev pub IsEnded : ℕ → State → List ℕ → Record → State → Type 0
IsEnded delimiter before part fields after =
    (field : List ℕ) × Feeds (reading delimiter) before [] [] part after fields field true

-- a part of a text in which no record ends
abbrev pub IsUnended : ℕ → State → List ℕ → Type 0
IsUnended delimiter before part = (after : State) × (fields : Record) × (field : List ℕ) ×
    Feeds (reading delimiter) before [] [] part after fields field false

-- a text that ends in this state ends between quotes
abbrev pub in_quotes : State → Bool
in_quotes st.InQuoted = true
in_quotes other = false

-- a part of a text in which no record ends, and which doesn't end between quotes
abbrev pub IsClosed : ℕ → State → List ℕ → Type 0
IsClosed delimiter before part = (after : State) × (fields : Record) × (field : List ℕ) ×
    Feeds (reading delimiter) before [] [] part after fields field false ×
    (in_quotes after ≡ false)

-- bytes cut behind each of these records, and what stands after the last one
pub data AreCut (delimiter : ℕ) : State → List ℕ → List Record → State → List ℕ → Type 0 where
  none : (state : State) (rest : List ℕ) → AreCut delimiter state rest [] state rest
  next : (before middle after : State) (part more rest : List ℕ) (fields : Record)
      (others : List Record) → IsEnded delimiter before part fields middle →
      AreCut delimiter middle more others after rest →
      AreCut delimiter before (part ++ more) (fields ∷ others) after rest
