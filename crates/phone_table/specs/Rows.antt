-- The rows of a table: each record with its answer; where each number is kept once, without those
-- whose number an earlier record has; or with columns that tell these.
use Rattle.std.specs.Prelude.{◌≡◌, ◌⊎◌, ◌&&◌, ℕ, Bool, true, false, List, [], ◌∷◌, ◌++◌, Option}
use Rattle.std.specs.Prelude.{Some, ⊤}
use Rattle.std.specs.List.{Contains, list_any}
use Rattle.std.specs.Option.{option_map_or}
use Rattle.phone_csv.specs.Formats.{Record}
use Rattle.phone_csv.specs.RecordReports.{Writes, rows_text}
use Rattle.phone_csv.specs.declared.format.Format.{Format}
use Rattle.phone_table.specs.Answered.{Answered, AreAnswered, has_key}
use Rattle.phone_table.specs.Counts.{counts_after, counts_without, no_counts}
use Rattle.phone_table.specs.Duplicates.{marked_rows}
use Rattle.phone_table.specs.declared.counts.Counts.{Counts}
use Rattle.phone_values.specs.declared.reading.Reading.{Reading}

-- the row for a record: its own fields, and behind them its answer
abbrev pub row_of : Answered → Record
row_of a = a.own ++ a.answer

-- an earlier record has this key
abbrev pub is_taken : List Answered → Option (List ℕ) → Bool
is_taken earlier key = option_map_or (λ k. list_any (has_key k) earlier) key false

-- of all records these rows are written, which gives these counts: that of each, or, where each
-- number is kept once, of each but those whose key an earlier one has
pub data AreKept (once : Bool) : List Answered → List Record → Counts → Type 0 where
  none : AreKept once [] [] no_counts
  kept : (all : List Answered) (rows : List Record) (counts : Counts) (a : Answered) →
      AreKept once all rows counts → (once && is_taken all a.key) ≡ false →
      AreKept once (all ++ a ∷ []) (rows ++ row_of a ∷ []) (counts_after counts (row_of a))
  left_out : (all : List Answered) (rows : List Record) (counts : Counts) (a : Answered) →
      AreKept once all rows counts → (once && is_taken all a.key) ≡ true →
      AreKept once (all ++ a ∷ []) rows (counts_without counts (row_of a))

-- the row for a record is written, or that for another one with its key
abbrev pub IsHeldBy : List Answered → List Record → Answered → Type 0
IsHeldBy all rows a = Contains rows (row_of a) ⊎
    ((other : Answered) × (key : List ℕ) × Contains all other × (a.key ≡ Some key) ×
    (other.key ≡ Some key) × Contains rows (row_of other))

-- with the columns of duplicates the rows of all are written, and each is counted
abbrev pub AreMarked : List Answered → List Record → Counts → Type 0
AreMarked all rows counts = (rows ≡ marked_rows all 2 all) ×
    ((plain : List Record) × AreKept false all plain counts)

-- the rows that are written of all records, with or without the columns of duplicates
abbrev pub AreWritten : (marks once : Bool) → List Answered → List Record → Counts → Type 0
AreWritten true once = AreMarked
AreWritten false once = AreKept once

-- what is written for records, whose answers are such, and of all of which this holds: the text of
-- these rows
abbrev pub WritesKept : (Record → Option Reading → Record → Type 0) → (marks once : Bool) →
    (List Answered → Type 0) → Counts → Format → Writes
WritesKept gives marks once holds counts format records text = (all : List Answered) ×
    (rows : List Record) × AreAnswered gives records all × AreWritten marks once all rows counts ×
    holds all × (text ≡ rows_text format rows)

-- nothing more holds of records
abbrev pub anything : List Answered → Type 0
anything all = ⊤

-- the same, whatever its counts
abbrev pub WritesSome : (Record → Option Reading → Record → Type 0) → (marks once : Bool) →
    Format → Writes
WritesSome gives marks once format records text =
    (counts : Counts) × WritesKept gives marks once anything counts format records text
