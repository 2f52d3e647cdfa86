-- A quote that opens a field and is never closed.
use Rattle.std.specs.Prelude.{◌≡◌, ℕ, ◌+◌, ◌==◌, ◌&&◌, Bool, true, false, List, [], ◌∷◌, ◌++◌}
use Rattle.csv.specs.Machine.{Feeds}
use Rattle.csv.specs.Reading.{strip_bom}
use Rattle.csv.specs.Writing.{escaped}
use Rattle.csv.specs.declared.parser.State.{State}
use Rattle.csv.specs.declared.parser.State.TheVariants as st
use Rattle.phone_csv.specs.Feeds.{counted, line_feeds}
use Rattle.phone_csv.specs.Formats.{Record, reading, writing}
use Rattle.phone_csv.specs.Records.{AreCut}

-- in this state a field begins
abbrev pub begins_field : State → Bool
begins_field st.StartRecord = true
begins_field st.StartField = true
begins_field st.AfterCr = true
begins_field other = false

-- a byte opens a field between quotes
abbrev pub opens_quote : State → ℕ → Bool
opens_quote state byte = begins_field state && (byte == 34)

-- a field begins behind these bytes
pub record IsBeforeField (delimiter : ℕ) (start : State) (front : List ℕ) : Type 0 where
  pub records : List Record
  pub state : State
  pub rest : List ℕ
  pub cut : AreCut delimiter start front records state rest
  pub at : State
  pub fields : Record
  pub field : List ℕ
  pub fed : Feeds (reading delimiter) state [] [] rest at fields field false
  pub begins : begins_field at ≡ true

-- behind this front of bytes a quote opens a field, and none closes it: each one that follows
-- stands twice
pub record IsOpenQuote (delimiter : ℕ) (start : State) (bytes front : List ℕ) : Type 0 where
  pub before : IsBeforeField delimiter start front
  pub field : List ℕ
  pub whole : bytes ≡ front ++ 34 ∷ escaped (writing delimiter) field

-- bytes end in a field whose quote was opened on this line, counted from 1, so many line feeds
-- standing in front of the bytes
abbrev pub EndsInQuotes : ℕ → State → (earlier line : ℕ) → List ℕ → Type 0
EndsInQuotes delimiter start earlier line bytes = (front : List ℕ) ×
    IsOpenQuote delimiter start bytes front × (line ≡ counted (earlier + line_feeds front + 1))

-- a text whose first record ends so, a byte-order mark in front of it passed over
abbrev pub IsOpenHeader : ℕ → ℕ → List ℕ → Type 0
IsOpenHeader delimiter line text =
    EndsInQuotes delimiter st.StartRecord 0 line (strip_bom text)
