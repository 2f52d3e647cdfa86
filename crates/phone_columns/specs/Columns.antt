-- Columns by their numbers, and the buffers of each.
use Rattle.std.specs.Prelude.{ℕ, ◌∷◌, ◌==◌, if◌then◌else◌, nat_lt, List, [], map, Option, None}
use Rattle.std.specs.Prelude.{Some, Bool, true, false}
use Rattle.std.specs.Option.{option_to_list}
use Rattle.std.specs.List.{flat_map}
use Rattle.phone_arrow.specs.Bits.{bitmap_of}
use Rattle.phone_arrow.specs.Buffers.{in_eight_bytes, offsets_of}
use Rattle.phone_values.specs.declared.mode.Mode.TheVariants as mode
use Rattle.phone_values.specs.declared.rules.Rules.{Rules}
use Rattle.phone_records.specs.declared.loader.Metadata.{Metadata}
use Rattle.phone_columns.specs.Cells.{cell_of_row, fact_of_row, is_number, text_of_row}
use Rattle.phone_columns.specs.declared.answers.Answer.{Answer}
use Rattle.phone_columns.specs.declared.column.Cell.TheVariants as cell_of
use Rattle.phone_columns.specs.declared.column.Column.{Column}
use Rattle.phone_columns.specs.declared.column.Column.TheVariants.{IsNumber, Plain, Text, Told}
use Rattle.phone_columns.specs.declared.column.Fact.TheVariants as fact_of

-- the column that has this number
abbrev pub column_of : ℕ → Option Column
column_of number =
    if number == 0 then Some (Text mode.E164)
    else if number == 1 then Some (Text mode.International)
    else if number == 2 then Some (Text mode.National)
    else if number == 3 then Some (Text mode.Rfc3966)
    else if number == 4 then Some (Plain cell_of.Code)
    else if number == 5 then Some (Plain cell_of.Value)
    else if number == 6 then Some (Plain cell_of.Zeros)
    else if number == 7 then Some (Told fact_of.Kind)
    else if number == 8 then Some (Told fact_of.Region)
    else if number == 9 then Some (Told fact_of.Validity)
    else if number == 10 then Some (Plain cell_of.Source)
    else if number == 11 then Some (Plain cell_of.Refusal)
    else if number == 12 then Some IsNumber
    else None

-- the offsets of the texts that rows have, each in eight bytes
abbrev pub offsets_by : (Answer → List ℕ) → List Answer → List ℕ
offsets_by text answers = in_eight_bytes (offsets_of (map text answers))

-- the buffers of a column, each row's part being what the row alone has
abbrev pub buffers_of : Rules → List Metadata → Column → List Answer → List (List ℕ)
buffers_of rules db (Text mode) answers = offsets_by (text_of_row rules db mode) answers ∷
    flat_map (text_of_row rules db mode) answers ∷ []
buffers_of rules db (Plain c) answers = flat_map (cell_of_row c) answers ∷ []
buffers_of rules db (Told f) answers = flat_map (fact_of_row rules db f) answers ∷ []
buffers_of rules db IsNumber answers = bitmap_of (map is_number answers) ∷ []

-- no column has the number
abbrev pub is_no_column : ℕ → Bool
is_no_column number = nat_lt 12 number

-- the same in a list; no column where none has the number
abbrev pub column_in : ℕ → List Column
column_in number = option_to_list (column_of number)

-- the columns that have these numbers
abbrev pub columns_of : List ℕ → List Column
columns_of numbers = flat_map column_in numbers

-- the column tells what is looked up of a number
abbrev pub is_told : Column → Bool
is_told (Told f) = true
is_told other = false

-- the column has texts
abbrev pub is_text : Column → Bool
is_text (Text m) = true
is_text other = false
