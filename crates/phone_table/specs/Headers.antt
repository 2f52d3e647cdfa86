-- Which columns a header has, and which names are put behind it.
use Rattle.std.specs.Prelude.{ℕ, Bool, nat_lt, List, [], ◌∷◌, ◌+◌, ◌++◌, length, map}
use Rattle.std.specs.Prelude.{if◌then◌else◌, Option, Some, None, option_map, Result, Ok, Err}
use Rattle.std.specs.List.{find}
use Rattle.std.specs.Option.{option_map_or}
use Rattle.std.specs.Result.{result_map_both}
use Rattle.std.specs.Str.{bytes_eq}
use Rattle.phone_csv.specs.Formats.{Record}
use Rattle.phone_table.specs.declared.header.Column.{Column}
use Rattle.phone_table.specs.declared.header.Column.TheVariants.{Number, Region}
use Rattle.phone_table.specs.declared.header.ColumnError.{ColumnError}
use Rattle.phone_table.specs.declared.header.ColumnError.TheVariants.{Absent, Twice}
use Rattle.phone_table.specs.declared.header.Columns.{Columns}
use Rattle.phone_answers.specs.Fields.{names}
use Rattle.phone_answers.specs.declared.extra.Extra.{Extra}

-- the column of a name: the first field of the header that is equal to it
abbrev pub column_of : Record → List ℕ → Option ℕ
column_of [] name = None
column_of (field ∷ fields) name = if bytes_eq field name then Some 0
    else option_map (λ n. n + 1) (column_of fields name)

-- 1 for a field that is equal to a name
abbrev pub one_if : Bool → ℕ
one_if is_equal = if is_equal then 1 else 0

-- how often a name stands in a header
abbrev pub times : Record → List ℕ → ℕ
times [] name = 0
times (field ∷ fields) name = one_if (bytes_eq field name) + times fields name

-- the one column of a name that is asked for; refused where the header has none, or more
abbrev pub one_column_of : Column → Record → List ℕ → Result ℕ ColumnError
one_column_of column header name = if nat_lt 1 (times header name) then Err (Twice column)
    else option_map_or (λ n. Ok n) (column_of header name) (Err (Absent column))

-- the column of regions, where one is asked for
abbrev pub region_column : Record → Option (List ℕ) → Result (Option ℕ) ColumnError
region_column header None = Ok None
region_column header (Some name) =
    result_map_both (λ n. Some n) (λ e. e) (one_column_of Region header name)

-- the columns of a header by these two, the first of which is refused first
abbrev pub columns_by : Record → Result ℕ ColumnError → Result (Option ℕ) ColumnError →
    Result Columns ColumnError
columns_by header (Err e) region = Err e
columns_by header (Ok n) (Err e) = Err e
columns_by header (Ok n) (Ok r) = Ok record { number = n; region = r; width = length header }

-- the columns of these names
abbrev pub columns_of : Record → List ℕ → Option (List ℕ) → Result Columns ColumnError
columns_of header number region =
    columns_by header (one_column_of Number header number) (region_column header region)

-- names, each behind these letters
abbrev pub behind : (front : List ℕ) → Record → Record
behind front texts = map (λ text. front ++ text) texts

-- the names of columns that are asked for, in their order
abbrev pub headings : List Extra → Record
headings extra = map (λ e. e.heading.now) extra

-- the names that are put behind a header: theirs, and the answer's, each behind these letters
abbrev pub added_names : (front : List ℕ) → List Extra → Record
added_names front extra = behind front (headings extra) ++ behind front names

-- a name stands more than once among those of a header and those that are put behind it
abbrev pub is_taken : (header added : Record) → List ℕ → Bool
is_taken header added name = nat_lt 1 (times header name + times added name)

-- the first of the names that are put behind a header that does
abbrev pub first_taken : (header added : Record) → Option (List ℕ)
first_taken header added = find (is_taken header added) added
