-- What is written on the records of a text.
use Rattle.std.specs.Prelude.{◌≡◌, ◌⊎◌, ℕ, ◌+◌, List, [], ◌∷◌, ◌++◌, Option}
use Rattle.std.specs.Prelude.{None, Some, false}
use Rattle.std.specs.List.{flat_map}
use Rattle.csv.specs.Machine.{ends_at_end, next_record}
use Rattle.csv.specs.Reading.{records_next}
use Rattle.csv.specs.declared.parser.State.{State}
use Rattle.phone_device.specs.Passing.{IsAtEnd}
use Rattle.phone_csv.specs.Feeds.{counted, feeds_before}
use Rattle.phone_csv.specs.Formats.{Record, reading, record_text}
use Rattle.phone_csv.specs.declared.format.Format.{Format}
use Rattle.phone_csv.specs.Quotes.{EndsInQuotes}
use Rattle.phone_csv.specs.Records.{AreCut, IsClosed, IsEnded, IsUnended}

-- what may be done with a record: what is kept before it, its fields, those of its answer, or none
-- where it is left out, and what is kept after it
abbrev pub Gives : Type 0 → Type 1
Gives Kept = Kept → Record → Option Record → Kept → Type 0

-- the rows for records, in their order: each record as it was read, and behind its fields those of
-- its answer, unless it is left out; from what is kept first to what is kept last
pub data AreRows {Kept : Type 0} (gives : Kept → Record → Option Record → Kept → Type 0)
    (first : Kept) : List Record → List Record → Kept → Type 0 where
  none : AreRows gives first [] [] first
  answered : (records rows : List Record) (kept : Kept) (fields answer : Record) (last : Kept) →
      AreRows gives first records rows kept → gives kept fields (Some answer) last →
      AreRows gives first (records ++ fields ∷ []) (rows ++ (fields ++ answer) ∷ []) last
  left_out : (records rows : List Record) (kept : Kept) (fields : Record) (last : Kept) →
      AreRows gives first records rows kept → gives kept fields None last →
      AreRows gives first (records ++ fields ∷ []) rows last

-- the text of rows, one after the other
abbrev pub rows_text : Format → List Record → List ℕ
rows_text format rows = flat_map (record_text format) rows

-- what may be written for records
abbrev pub Writes : Type 1
Writes = List Record → List ℕ → Type 0

-- the text of their rows, where this is kept last
abbrev pub WritesRows : {Kept : Type 0} → Gives Kept → Format → (first last : Kept) → Writes
WritesRows gives format first last records text = (rows : List Record) ×
    AreRows gives first records rows last × (text ≡ rows_text format rows)

-- and whatever is
abbrev pub WritesSomeRows : {Kept : Type 0} → Gives Kept → Format → (first : Kept) → Writes
WritesSomeRows gives format first records text =
    (last : _) × WritesRows gives format first last records text

-- the record that stands behind the last line end, where the text ends here and one does
abbrev pub last_record : ℕ → State → List ℕ → List Record
last_record delimiter state rest = records_next (λ _ _. [])
    (next_record (reading delimiter) state [] [] rest)

-- the records of bytes that don't end between quotes: those that are ended, and the last one
abbrev pub AreAll : ℕ → State → List ℕ → List Record → Type 0
AreAll delimiter start bytes all =
    (records : List Record) × (state : State) × (rest : List ℕ) ×
    AreCut delimiter start bytes records state rest × IsClosed delimiter state rest ×
    (all ≡ records ++ last_record delimiter state rest)

-- the report on bytes: what is written for all their records
abbrev pub IsReport : Writes → ℕ → State → List ℕ → List ℕ → Type 0
IsReport writes delimiter start bytes text = (records : List Record) ×
    AreAll delimiter start bytes records × writes records text

-- the report on the records that are ended
abbrev pub IsReportOnEnded : Writes → ℕ → State → List ℕ → List ℕ → Type 0
IsReportOnEnded writes delimiter start bytes text =
    (records : List Record) × (state : State) × (rest : List ℕ) ×
    AreCut delimiter start bytes records state rest × IsUnended delimiter state rest ×
    writes records text

-- the report on some first ones of them
abbrev pub IsReportOnFirst : Writes → ℕ → State → List ℕ → List ℕ → Type 0
IsReportOnFirst writes delimiter start bytes text =
    (records : List Record) × (state : State) × (rest : List ℕ) ×
    AreCut delimiter start bytes records state rest × writes records text

-- a text that begins the report on some first records, or on all where nothing is to come
abbrev pub IsBeginning : Writes → ℕ → State → Option (List ℕ) → List ℕ → List ℕ → Type 0
IsBeginning writes delimiter start to_come bytes text = (left : List ℕ) ×
    (IsReportOnFirst writes delimiter start bytes (text ++ left) ⊎
    (IsAtEnd to_come × IsReport writes delimiter start bytes (text ++ left)))

-- the next record of bytes: one that is ended, or the last one where nothing is to come
abbrev pub IsNext : ℕ → State → Option (List ℕ) → List ℕ → Record → Type 0
IsNext delimiter state to_come rest fields =
    ((part : List ℕ) × (more : List ℕ) × (after : State) × (rest ≡ part ++ more) ×
    IsEnded delimiter state part fields after) ⊎
    (IsAtEnd to_come × (last_record delimiter state rest ≡ fields ∷ []))

-- the report on the records in front of one that is refused; so many line feeds stand in front of
-- the bytes, and so many in front of that record
abbrev pub IsReportBefore : Writes → (Record → Type 0) → ℕ → State → (earlier feeds : ℕ) →
    Option (List ℕ) → List ℕ → List ℕ → Type 0
IsReportBefore writes refuses delimiter start earlier feeds to_come bytes text =
    (records : List Record) × (state : State) × (rest : List ℕ) × (fields : Record) ×
    AreCut delimiter start bytes records state rest ×
    IsNext delimiter state to_come rest fields ×
    (feeds ≡ counted (earlier + feeds_before state bytes rest)) ×
    refuses fields × writes records text

-- the report on the records that are ended, in front of a last one with a quote that is never
-- closed; where the bytes begin in front of a record it was opened on this line, counted from 1, so
-- many line feeds standing in front of the bytes
abbrev pub IsReportBeforeQuote : Writes → ℕ → State → (earlier line : ℕ) →
    List ℕ → List ℕ → Type 0
IsReportBeforeQuote writes delimiter start earlier line bytes text =
    IsReportOnEnded writes delimiter start bytes text ×
    (ends_at_end start ≡ false → EndsInQuotes delimiter start earlier line bytes)
