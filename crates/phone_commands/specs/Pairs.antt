-- Lines of a table of prefixes, each with a tab between its fields.
use Rattle.std.specs.Prelude.{◌≡◌, ◌⊎◌, ℕ, ◌==◌, Bool, true, false, List, [], ◌∷◌, ◌++◌, length}
use Rattle.std.specs.Prelude.{None, unwrap_or}
use Rattle.std.specs.List.{list_any}
use Rattle.csv.specs.Records.{field_at}
use Rattle.csv.specs.declared.parser.State.{State}
use Rattle.phone_csv.specs.Firsts.{IsHead, IsOnly, first_in}
use Rattle.phone_csv.specs.Formats.{Record}
use Rattle.phone_csv.specs.Quotes.{IsOpenHeader}
use Rattle.phone_csv.specs.Runs.{most_bytes}

-- a line has a tab
abbrev pub has_tab : List ℕ → Bool
has_tab line = list_any (λ c. c == 9) line

-- the first record of a line, by commas, has these fields: it is ended within the line, or is all
-- of it
abbrev pub HasRecord : List ℕ → Record → Type 0
HasRecord line fields =
    ((front : List ℕ) × (rest : List ℕ) × (after : State) × (feeds : ℕ) × (has_mark : Bool) ×
    (line ≡ front ++ rest) × IsHead 44 front fields after feeds has_mark) ⊎
    ((has_mark : Bool) × IsOnly 44 line fields has_mark)

-- a line without a tab is a record of these two fields
abbrev pub IsPair : List ℕ → (prefix text : List ℕ) → Type 0
IsPair line prefix text = (has_tab line ≡ false) × HasRecord line (prefix ∷ text ∷ [])

-- a line stays as it is: it has a tab, another count of fields, no record, a quote that is never
-- closed, or as many bytes as are read at most
pub data IsNoPair (line : List ℕ) : Type 0 where
  tab : has_tab line ≡ true → IsNoPair line
  other : (fields : Record) → HasRecord line fields → ¬ (length fields ≡ 2) → IsNoPair line
  absent : first_in 44 line ≡ None → IsNoPair line
  unclosed : (at : ℕ) → IsOpenHeader 44 at line → IsNoPair line
  long : length line ≡ most_bytes → IsNoPair line

-- a line as a table of prefixes wants it: the two fields of a pair with a tab between, or as it is
pub data IsWithTab (line : List ℕ) : List ℕ → Type 0 where
  pair : (prefix text : List ℕ) → IsPair line prefix text → IsWithTab line (prefix ++ 9 ∷ text)
  kept : IsNoPair line → IsWithTab line line

-- the field of a record at a place; empty where it has none
abbrev pub field_in : Record → ℕ → List ℕ
field_in fields place = unwrap_or (field_at fields place) []
