-- How tables are read and written: CSV as RFC 4180 has it, with a delimiter of one's own.
use Rattle.std.specs.Prelude.{ℕ, ◌==◌, ◌&&◌, Bool, not, List, [], ◌∷◌, ◌++◌, Option, None, Some}
use Rattle.std.specs.Prelude.{if◌then◌else◌}
use Rattle.csv.specs.Reading.{default_config}
use Rattle.csv.specs.Writing.{default_writer, is_blank, row_body, with_delimiter}
use Rattle.csv.specs.declared.parser.Action.{Action}
use Rattle.csv.specs.declared.parser.Action.TheVariants as act
use Rattle.csv.specs.declared.parser.Config.{Config}
use Rattle.csv.specs.declared.parser.State.{State}
use Rattle.csv.specs.declared.parser.State.TheVariants as st
use Rattle.csv.specs.declared.writer.WriterBuilder.{WriterBuilder}
use Rattle.phone_csv.specs.declared.cutter.Start.{Start}
use Rattle.phone_csv.specs.declared.format.Format.{Format}
use Rattle.phone_csv.specs.declared.format.LineEnd.{LineEnd}
use Rattle.phone_csv.specs.declared.format.LineEnd.TheVariants as line_end
use Rattle.phone_csv.specs.declared.machine.Place.{Place}
use Rattle.phone_csv.specs.declared.machine.Place.TheVariants as place
use Rattle.phone_csv.specs.declared.machine.Effect.{Effect}
use Rattle.phone_csv.specs.declared.machine.Effect.TheVariants as effect

-- a record: its fields, each of bytes
abbrev pub Record : Type 0
Record = List (List ℕ)

-- a byte may stand between fields: any but a quote, a carriage return and a line feed
abbrev pub is_delimiter : ℕ → Bool
is_delimiter byte = not (byte == 34) && not (byte == 13) && not (byte == 10)

-- how a text is read: the kit's defaults, but for the delimiter
abbrev pub reading : ℕ → Config
reading delimiter = record default_config { delimiter = delimiter }

-- how the fields of a text are written: the kit's defaults, but for the delimiter
abbrev pub writing : ℕ → WriterBuilder
writing delimiter = with_delimiter default_writer delimiter

-- the bytes behind a record that is written
abbrev pub end_text : LineEnd → List ℕ
end_text line_end.Feed = 10 ∷ []
end_text line_end.ReturnFeed = 13 ∷ 10 ∷ []

-- the text of a record in front of its line end: two quotes where no byte of it shows
abbrev pub record_body : ℕ → Record → List ℕ
record_body delimiter fields = row_body (writing delimiter) fields ++
    (if is_blank (writing delimiter) fields then 34 ∷ 34 ∷ [] else [])

-- the text of a record, its line end with it
abbrev pub record_text : Format → Record → List ℕ
record_text format fields = record_body format.delimiter fields ++ end_text format.line_end

-- a place in a text, as the kit calls it
abbrev pub state_of : Place → State
state_of place.StartRecord = st.StartRecord
state_of place.StartField = st.StartField
state_of place.InField = st.InField
state_of place.InQuoted = st.InQuoted
state_of place.AfterQuote = st.AfterQuote
state_of place.AfterReturn = st.AfterCr

-- what a byte does, as the kit calls it
abbrev pub action_of : Effect → Action
action_of effect.Skip = act.Skip
action_of effect.Copy = act.Copy
action_of effect.EndField = act.EndField
action_of effect.EndRecord = act.EndRecord

-- the state behind a first record, of which this is the rest
abbrev pub state_behind : Option Start → State
state_behind None = st.StartRecord
state_behind (Some start) = state_of start.place

-- the line ends of a table whose first record left this state: with carriage returns where one
-- ended that record
abbrev pub line_end_in : State → LineEnd
line_end_in st.AfterCr = line_end.ReturnFeed
line_end_in other = line_end.Feed

-- the format of such a table
abbrev pub format_after : ℕ → State → Format
format_after delimiter state = record { delimiter = delimiter; line_end = line_end_in state }

-- commas between fields, and this behind records
abbrev pub commas : LineEnd → Format
commas end = record { delimiter = 44; line_end = end }
