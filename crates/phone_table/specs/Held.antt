-- What keeps the records of a table until all are read.
use Rattle.std.specs.Prelude.{◌≡◌, ◌+◌, ℕ, List, [], ◌∷◌, ◌++◌, cond, drop, map, take}
use Rattle.std.specs.Prelude.{Option, None, Some, String, option_map, string_bytes}
use Rattle.std.specs.declared.alloc.Global.{Global}
use Rattle.std.specs.Map.{lookup}
use Rattle.std.specs.Option.{option_and_then}
use Rattle.std.specs.String.{string_eq}
use Rattle.csv.specs.Records.{fields_of}
use Rattle.phone_csv.specs.Formats.{Record}
use Rattle.phone_csv.specs.RecordReports.{Gives}
use Rattle.phone_table.specs.Answered.{Answered, key_in}
use Rattle.phone_table.specs.Answers.{IsAnswerOf}
use Rattle.phone_table.specs.Counts.{counts_after}
use Rattle.phone_table.specs.Summed.{SumsRow}
use Rattle.phone_table.specs.Unknowns.{NotesRow}
use Rattle.phone_table.specs.declared.duplicates.Shared.{Shared}
use Rattle.phone_table.specs.declared.duplicates.Held.{Held}
use Rattle.phone_table.specs.declared.holder.Holder.{Holder}
use Rattle.phone_values.specs.declared.reading.Reading.{Reading}

-- a record that is kept, as it was answered
abbrev pub answered_of : Held → Answered
answered_of h = record {
  own = take h.width (fields_of h.fields);
  answer = drop h.width (fields_of h.fields);
  key = option_map string_bytes h.key;
}

-- such records
abbrev pub answered : List Held → List Answered
answered held = map answered_of held

-- what is kept at a key
abbrev pub found : List (String Global × Shared) → String Global → Option Shared
found keys key = lookup (string_eq key) keys

-- the same, where there is a key
abbrev pub found_at : List (String Global × Shared) → Option (String Global) → Option Shared
found_at keys key = option_and_then (found keys) key

-- the records that share a key after one more, of this number
abbrev pub one_more : Option Shared → ℕ → Shared
one_more None number = record { first = number; count = 1 }
one_more (Some s) number = record s { count = s.count + 1 }

-- what is kept at a key after one more record, of this number
abbrev pub found_after : List (String Global × Shared) → Option (String Global) → ℕ →
    String Global → Option Shared
found_after keys None number q = found keys q
found_after keys (Some key) number q =
    cond (string_eq key q) (Some (one_more (found keys key) number)) (found keys q)

-- what keeps all records of a table does so with one more: it is counted, summed and kept with its
-- answer, the text is noted that names no region, and no row is written
pub data Holds (before : Holder) (fields : Record) (after : Holder) : Option Record → Type 0 where
  held : (number : Option Reading) (answer : Record) →
      IsAnswerOf before.table.engine.rules before.table.engine.database.now
      before.table.engine.hint before.table.columns before.table.asked fields number answer →
      after.table ≡ record before.table {
        counts = counts_after before.table.counts (fields ++ answer);
        unknown = after.table.unknown;
        summary = after.table.summary;
      } →
      NotesRow before.table.columns (fields ++ answer) before.table.unknown.names.entries
      after.table.unknown.names.entries →
      SumsRow before.table.asked (fields ++ answer) before.table.summary after.table.summary →
      answered after.held.items ≡ answered before.held.items ++
      record { own = fields; answer = answer; key = key_in number } ∷ [] →
      Holds before fields after None

-- the same, in the order in which a run over records has it
abbrev pub holds : Gives Holder
holds before fields answer after = Holds before fields after answer
