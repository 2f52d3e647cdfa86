-- What a column has of one row, in bytes. Where the row has no number, its bytes are 0 and its text
-- is empty.
use Rattle.std.specs.Prelude.{ℕ, Bool, true, false, if◌then◌else◌, List, [], ◌∷◌, None}
use Rattle.std.specs.Prelude.{unwrap_or}
use Rattle.std.specs.Int.{w16, w64, to_le_bytes}
use Rattle.std.specs.Option.{option_map_or}
use Rattle.phone_values.specs.Ids.{name}
use Rattle.phone_values.specs.declared.mode.Mode.{Mode}
use Rattle.phone_values.specs.declared.reading.Reading.{Reading}
use Rattle.phone_values.specs.declared.rules.Rules.{Rules}
use Rattle.phone_records.specs.declared.loader.Metadata.{Metadata}
use Rattle.phone_engine.specs.Facts.{is_valid_by, kind_by, printed_as, region_by}
use Rattle.phone_library.specs.Printed.{printed_by}
use Rattle.phone_c_base.specs.Answers.{kind_number}
use Rattle.phone_c_base.specs.Numbers.{source_number}
use Rattle.phone_columns.specs.declared.answers.Answer.{Answer}
use Rattle.phone_columns.specs.declared.answers.Answer.TheVariants.{Absent, Number, Refused}
use Rattle.phone_columns.specs.declared.column.Cell.{Cell}
use Rattle.phone_columns.specs.declared.column.Cell.TheVariants.{Code, Refusal, Source, Value}
use Rattle.phone_columns.specs.declared.column.Cell.TheVariants.{Zeros}
use Rattle.phone_columns.specs.declared.column.Fact.{Fact}
use Rattle.phone_columns.specs.declared.column.Fact.TheVariants.{Kind, Region, Validity}

-- the row has a number
abbrev pub is_number : Answer → Bool
is_number (Number n) = true
is_number other = false

-- of a number: its calling code in two bytes, the national number's value in eight, its leading
-- zeros, and how the code was found
abbrev pub cell_of_number : Cell → Reading → List ℕ
cell_of_number Code n = to_le_bytes w16 n.code.value
cell_of_number Value n = to_le_bytes w64 n.national.value
cell_of_number Zeros n = n.national.zeros ∷ []
cell_of_number Source n = source_number n.code.source ∷ []
cell_of_number Refusal n = 0 ∷ []

-- the same where there is no number
abbrev pub empty_cell : Cell → List ℕ
empty_cell Code = to_le_bytes w16 0
empty_cell Value = to_le_bytes w64 0
empty_cell Zeros = 0 ∷ []
empty_cell Source = 0 ∷ []
empty_cell Refusal = 0 ∷ []

-- of a refusal: its number
abbrev pub cell_of_refusal : Cell → ℕ → List ℕ
cell_of_refusal Refusal status = status ∷ []
cell_of_refusal other status = empty_cell other

-- of a row
abbrev pub cell_of_row : Cell → Answer → List ℕ
cell_of_row c (Number n) = cell_of_number c n
cell_of_row c (Refused status) = cell_of_refusal c status
cell_of_row c Absent = empty_cell c

-- of a row by rules: the number of its number's kind, the two letters of its region, and whether it
-- is valid
abbrev pub fact_of_row : Rules → List Metadata → Fact → Answer → List ℕ
fact_of_row rules db Kind (Number n) = kind_number (kind_by rules db n) ∷ []
fact_of_row rules db Region (Number n) = option_map_or name (region_by rules db n) (0 ∷ 0 ∷ [])
fact_of_row rules db Validity (Number n) = (if is_valid_by rules db n then 1 else 0) ∷ []
fact_of_row rules db Region other = 0 ∷ 0 ∷ []
fact_of_row rules db f other = 0 ∷ []

-- the text of its number in a mode, as these rules print it
abbrev pub text_of_row : Rules → List Metadata → Mode → Answer → List ℕ
text_of_row rules db mode (Number n) =
    unwrap_or (printed_by rules db mode (printed_as rules n)) []
text_of_row rules db mode other = []
