-- What is written for a table.
use Rattle.std.specs.Prelude.{◌≡◌, ◌⊎◌, ℕ, Bool, true, false, List, [], ◌∷◌, ◌++◌, Option, Some}
use Rattle.std.specs.Prelude.{None, if◌then◌else◌}
use Rattle.csv.specs.Reading.{AreRecords, strip_bom}
use Rattle.csv.specs.declared.parser.State.{State}
use Rattle.csv.specs.declared.parser.State.TheVariants.{StartRecord}
use Rattle.phone_device.specs.Passing.{IsAtEnd}
use Rattle.phone_csv.specs.Firsts.{IsHead, IsOnly, begins_with_mark, byte_order_mark, first_in}
use Rattle.phone_csv.specs.Formats.{Record, format_after, reading, record_text, state_of}
use Rattle.phone_csv.specs.RecordReports.{AreAll, IsReport, IsReportOnFirst, Writes}
use Rattle.phone_table.specs.Answered.{Answered, AreAnswered}
use Rattle.phone_table.specs.Rows.{AreWritten}
use Rattle.phone_table.specs.declared.counts.Counts.{Counts}
use Rattle.phone_values.specs.declared.reading.Reading.{Reading}
use Rattle.phone_csv.specs.declared.cutter.Start.{Start}
use Rattle.phone_csv.specs.declared.format.Format.{Format}

-- these bytes are a header, of which nothing is left over
abbrev pub IsHeaderAlone : ℕ → Record → List ℕ → Type 0
IsHeaderAlone delimiter fields bytes = (after : State) ×
    (first_in delimiter bytes ≡ Some (fields, after, []))

-- these bytes are a header: of each text that begins with them, or of the whole one
abbrev pub IsHeader : ℕ → Record → Option Start → Bool → List ℕ → Type 0
IsHeader delimiter fields (Some start) has_mark bytes =
    IsHead delimiter bytes fields (state_of start.place) start.feeds has_mark
IsHeader delimiter fields None has_mark bytes = IsOnly delimiter bytes fields has_mark

-- a byte-order mark, where there is one
abbrev pub mark_text : Bool → List ℕ
mark_text has_mark = if has_mark then byte_order_mark else []

-- the text of a header, a byte-order mark in front of it where one was
abbrev pub head_text : Format → Bool → Record → List ℕ
head_text format has_mark fields = mark_text has_mark ++ record_text format fields

-- the text for a table with this header: a byte-order mark where the table begins with one, the
-- header with the added names behind it, then the body for what follows; its records end in
-- carriage returns and line feeds where a carriage return ended the header, else in line feeds
pub record IsTable (header added : Record)
    (is_body : Format → State → List ℕ → List ℕ → Type 0) (delimiter : ℕ)
    (bytes text : List ℕ) : Type 0 where
  pub after : State
  pub rest : List ℕ
  pub body : List ℕ
  pub begins : first_in delimiter bytes ≡ Some (header, after, rest)
  pub answered : is_body (format_after delimiter after) after rest body
  pub whole : text ≡
      head_text (format_after delimiter after) (begins_with_mark bytes) (header ++ added) ++ body

-- a beginning of the text for a table whose body is on some first records, or on all where nothing
-- is to come
abbrev pub IsBeginning : (Format → Writes) → (header added : Record) → ℕ → Option (List ℕ) →
    List ℕ → List ℕ → Type 0
IsBeginning some header added delimiter to_come bytes text = (left : List ℕ) ×
    IsTable header added (λ format after rest body.
    IsReportOnFirst (some format) delimiter after rest body ⊎
    (IsAtEnd to_come × IsReport (some format) delimiter after rest body))
    delimiter bytes (text ++ left)

-- the text for a table with commas, read as the kit's `csv` reads: what stands behind the mark are
-- the header with the added names, and the rows that are written of the table's records, each with
-- its answer behind its fields; the mark is passed over, and nothing else, but where the first name
-- begins with one itself
pub record IsReadAgain (gives : Record → Option Reading → Record → Type 0) (marks once : Bool)
    (counts : Counts) (header added : Record) (bytes text : List ℕ) : Type 0 where
  pub after : State
  pub rest : List ℕ
  pub records : List Record
  pub all : List Answered
  pub rows : List Record
  pub written : List ℕ
  pub begins : first_in 44 bytes ≡ Some (header, after, rest)
  pub read : AreAll 44 after rest records
  pub answered : AreAnswered gives records all
  pub kept : AreWritten marks once all rows counts
  pub whole : text ≡ mark_text (begins_with_mark bytes) ++ written
  pub again : AreRecords (reading 44) StartRecord written ((header ++ added) ∷ rows)
  pub behind_mark : (begins_with_mark bytes ≡ true) ⊎ (begins_with_mark written ≡ false) →
      strip_bom text ≡ written
