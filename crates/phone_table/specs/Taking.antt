-- What a table keeps from record to record.
use Rattle.std.specs.Prelude.{◌≡◌, ◌&&◌, ◌||◌, ℕ, Bool, true, false, List, ◌++◌}
use Rattle.std.specs.Prelude.{Option, None, Some}
use Rattle.std.specs.List.{list_any}
use Rattle.std.specs.Option.{option_map_or}
use Rattle.std.specs.Str.{bytes_eq}
use Rattle.phone_csv.specs.Formats.{Record}
use Rattle.phone_table.specs.Answered.{key_in}
use Rattle.phone_table.specs.Answers.{IsAnswerOf}
use Rattle.phone_table.specs.Counts.{counts_after, counts_without}
use Rattle.phone_table.specs.Summed.{SumsRow}
use Rattle.phone_table.specs.Unknowns.{NotesRow}
use Rattle.phone_table.specs.declared.table.Table.{Table}
use Rattle.phone_values.specs.declared.reading.Reading.{Reading}

-- this is among the keys that a table has kept
abbrev pub has : Table → List ℕ → Bool
has t key = list_any (λ k. bytes_eq key k.items) t.keys.keys

-- the key of a record is among them
abbrev pub is_known : Table → Option (List ℕ) → Bool
is_known t key = option_map_or (has t) key false

-- what reads, what is asked for and the columns stay, and the key of a record is kept, where each
-- number is kept once
pub record Keeps (before : Table) (key : Option (List ℕ)) (after : Table) : Type 0 where
  pub engine : after.engine ≡ before.engine
  pub asked : after.asked ≡ before.asked
  pub columns : after.columns ≡ before.columns
  pub keys : (text : List ℕ) → before.asked.is_unique ≡ true →
      has after text ≡ (option_map_or (bytes_eq text) key false || has before text)

-- what a table does with a record: its row is written, or left out where each number is kept once
-- and the key of the record's is known; it is counted and summed, and the text noted that names no
-- region
pub data Takes (before : Table) (fields : Record) (after : Table) : Option Record → Type 0 where
  written : (number : Option Reading) (answer : Record) →
      IsAnswerOf before.engine.rules before.engine.database.now before.engine.hint before.columns
      before.asked fields number answer →
      (before.asked.is_unique && is_known before (key_in number)) ≡ false →
      Keeps before (key_in number) after →
      after.counts ≡ counts_after before.counts (fields ++ answer) →
      NotesRow before.columns (fields ++ answer) before.unknown.names.entries
      after.unknown.names.entries →
      SumsRow before.asked (fields ++ answer) before.summary after.summary →
      Takes before fields after (Some answer)
  left_out : (number : Option Reading) (answer : Record) →
      IsAnswerOf before.engine.rules before.engine.database.now before.engine.hint before.columns
      before.asked fields number answer →
      (before.asked.is_unique && is_known before (key_in number)) ≡ true →
      Keeps before (key_in number) after →
      after.counts ≡ counts_without before.counts (fields ++ answer) →
      NotesRow before.columns (fields ++ answer) before.unknown.names.entries
      after.unknown.names.entries →
      SumsRow before.asked (fields ++ answer) before.summary after.summary →
      Takes before fields after None
