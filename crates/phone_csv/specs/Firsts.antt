-- The first record of a text, as the header of a table.
use Rattle.std.specs.Prelude.{◌≡◌, ℕ, ◌==◌, ◌&&◌, ◌≤◌, Bool, List, [], ◌∷◌, ◌++◌, length}
use Rattle.std.specs.Prelude.{Option, Some, true, false, if◌then◌else◌}
use Rattle.csv.specs.Machine.{Feeds, Read, ends_at_end, next_record}
use Rattle.csv.specs.Reading.{strip_bom}
use Rattle.csv.specs.Records.{fields_of}
use Rattle.csv.specs.declared.parser.State.{State}
use Rattle.csv.specs.declared.parser.State.TheVariants as st
use Rattle.phone_csv.specs.Feeds.{counted, line_feeds}
use Rattle.phone_csv.specs.Formats.{Record, reading, state_of}
use Rattle.phone_csv.specs.Records.{IsClosed, IsUnended}
use Rattle.phone_csv.specs.Runs.{Quotes}
use Rattle.phone_csv.specs.declared.cutter.Cutter.{Cutter}
use Rattle.phone_csv.specs.declared.front.Mark.{Mark}
use Rattle.phone_csv.specs.declared.front.Mark.TheVariants as mark

-- the first record of a text, a byte-order mark in front of it passed over: its fields, the state
-- after it, and the text after it
abbrev pub first_in : ℕ → List ℕ → Option Read
first_in delimiter text = next_record (reading delimiter) st.StartRecord [] [] (strip_bom text)

-- bytes that are the first record of each text that begins with them
abbrev pub IsFirst : ℕ → List ℕ → Record → State → Type 0
IsFirst delimiter bytes fields after = (more : List ℕ) →
    first_in delimiter (bytes ++ more) ≡ Some (fields, after, more)

-- the byte-order mark of UTF-8
abbrev pub byte_order_mark : List ℕ
byte_order_mark = 239 ∷ 187 ∷ 191 ∷ []

-- a text begins with one
abbrev pub begins_with_mark : List ℕ → Bool
begins_with_mark (a ∷ b ∷ c ∷ rest) = (a == 239) && (b == 187) && (c == 191)
begins_with_mark other = false

-- the bytes are so of each text that begins with them
abbrev pub IsMarked : Bool → List ℕ → Type 0
IsMarked has_mark bytes = (more : List ℕ) → begins_with_mark (bytes ++ more) ≡ has_mark

-- bytes are a first record, behind which the next one begins, and have so many line feeds
pub record IsHead (delimiter : ℕ) (bytes : List ℕ) (fields : Record) (after : State) (feeds : ℕ)
    (has_mark : Bool) : Type 0 where
  pub first : IsFirst delimiter bytes fields after
  pub closed : ends_at_end after ≡ false
  pub line_feeds : feeds ≡ counted (line_feeds bytes)
  pub marked : IsMarked has_mark bytes

-- a text is a first record alone, and doesn't end between quotes
pub record IsOnly (delimiter : ℕ) (text : List ℕ) (fields : Record) (has_mark : Bool) : Type 0 where
  pub first : first_in delimiter text ≡ Some (fields, st.StartRecord, [])
  pub closed : IsClosed delimiter st.StartRecord (strip_bom text)
  pub marked : begins_with_mark text ≡ has_mark

-- how much of a byte-order mark the bytes so far are, after one more
abbrev pub mark_after : Mark → ℕ → Mark
mark_after mark.Start byte = if byte == 239 then mark.One else mark.Past
mark_after mark.One byte = if byte == 187 then mark.Two else mark.Past
mark_after mark.Two byte = if byte == 191 then mark.Whole else mark.Past
mark_after mark.Whole byte = mark.Behind
mark_after mark.Behind byte = mark.Behind
mark_after mark.Past byte = mark.Past

-- the bytes so far begin with a whole one
abbrev pub holds_mark : Mark → Bool
holds_mark mark.Whole = true
holds_mark mark.Behind = true
holds_mark other = false

-- of such bytes this part stands behind the byte-order mark
abbrev pub IsBehind : Mark → List ℕ → List ℕ → Type 0
IsBehind mark.Start bytes part = (bytes ≡ []) × (part ≡ [])
IsBehind mark.One bytes part = (bytes ≡ 239 ∷ []) × (part ≡ 239 ∷ [])
IsBehind mark.Two bytes part = (bytes ≡ 239 ∷ 187 ∷ []) × (part ≡ 239 ∷ 187 ∷ [])
IsBehind mark.Whole bytes part = (bytes ≡ byte_order_mark) × (part ≡ [])
IsBehind mark.Behind bytes part = bytes ≡ byte_order_mark ++ part
IsBehind mark.Past bytes part = (bytes ≡ part) × ((more : List ℕ) →
    (strip_bom (bytes ++ more) ≡ bytes ++ more) × (begins_with_mark (bytes ++ more) ≡ false))

-- these bytes are a beginning of a first record, which they don't end
pub record IsFront (mark : Mark) (bytes : List ℕ) (cutter : Cutter) : Type 0 where
  pub part : List ℕ
  pub behind : IsBehind mark bytes part
  pub fed : Feeds (reading cutter.format.delimiter) st.StartRecord [] [] part
      (state_of cutter.place) (fields_of cutter.fields) cutter.field.items false
  pub feeds : cutter.feeds ≡ counted (line_feeds bytes)
  pub quotes : Quotes cutter st.StartRecord part

-- bytes that end no first record, but perhaps by their last byte
pub record EndsNoFirst (delimiter : ℕ) (bytes : List ℕ) : Type 0 where
  pub front : List ℕ
  pub last : List ℕ
  pub whole : bytes ≡ front ++ last
  pub short : length last ≤ 1
  pub mark : Mark
  pub part : List ℕ
  pub behind : IsBehind mark front part
  pub unended : IsUnended delimiter st.StartRecord part
