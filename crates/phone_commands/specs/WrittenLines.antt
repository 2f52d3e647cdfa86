-- The number of a line, written in a format.
use Rattle.std.specs.Prelude.{◌≡◌, ◌⊎◌, ℕ, true, List, [], chars, Option, None, Some, Ok, Err}
use Rattle.std.specs.Str.{IsUtf8}
use Rattle.phone_dialling.specs.Original.{IsOriginal}
use Rattle.phone_dialling.specs.Texts.{text_in}
use Rattle.phone_engine.specs.Readings.{ReadsBy}
use Rattle.phone_engine.specs.ReportLines.{IsReportLine}
use Rattle.phone_further.specs.Answers.{mobile_text_in}
use Rattle.phone_records.specs.declared.loader.Metadata.{Metadata}
use Rattle.phone_values.specs.Ids.{name}
use Rattle.phone_values.specs.declared.country.Id.{Id}
use Rattle.phone_values.specs.declared.error.ParseError.{ParseError}
use Rattle.phone_values.specs.declared.reading.Reading.{Reading}
use Rattle.phone_values.specs.declared.rules.Rules.{Rules}
use Rattle.phone_words.specs.declared.values.Form.{Form}
use Rattle.phone_words.specs.declared.values.Form.TheVariants.{In, Mobile, Original}

-- the id of a region; empty where there is none
abbrev pub id_of : Option Id → List ℕ
id_of None = []
id_of (Some region) = name region

-- a number that was read from a text, in a format: its text in a mode; as that text was written; as
-- a mobile phone in the region dials it, with symbols
abbrev pub IsWritten : List Metadata → Option Id → Form → (raw : List ℕ) → Reading → List ℕ →
    Type 0
IsWritten db hint (In mode) raw n text = text ≡ text_in db mode None n
IsWritten db hint Original raw n text = IsOriginal db hint n (Some raw) text
IsWritten db hint Mobile raw n text = text ≡ mobile_text_in db (id_of hint) true n

-- what a line is answered: its number in a format; the report's line where it has none
pub data IsWrittenLine (rules : Rules) (db : List Metadata) (hint : Option Id) (form : Form)
    (line : List ℕ) : List ℕ → Type 0 where
  number : (n : Reading) (text : List ℕ) → IsUtf8 line →
      ReadsBy rules db hint (chars line) (Ok n) → IsWritten db hint form line n text →
      IsWrittenLine rules db hint form line text
  none : (report : List ℕ) →
      ¬ (IsUtf8 line) ⊎ ((e : ParseError) × ReadsBy rules db hint (chars line) (Err e)) →
      IsReportLine rules db hint line report → IsWrittenLine rules db hint form line report
