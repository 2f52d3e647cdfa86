-- What a table writes for records: of all its rows those that are kept.
use Rattle.std.proofs.Common.{◌≡◌, ◌&&◌, ◌||◌, ℕ, Bool, true, false, List, [], ◌∷◌, ◌++◌, Option, Some, None, Result, refl, sym, ap, ◌∙◌, subst}
use Rattle.std.specs.Prelude.{⊤}
use Rattle.std.specs.List.{list_any}
use Rattle.std.specs.Str.{bytes_eq}
use Rattle.std.proofs.lemmas.List.Folds.{list_any-append}
use Rattle.phone_csv.specs.Formats.{Record}
use Rattle.phone_csv.specs.RecordReports.{AreRows, WritesRows, WritesSomeRows}
use Rattle.phone_csv.specs.RecordReports.AreRows.{none, answered, left_out}
use Rattle.phone_csv.specs.declared.format.Format.{Format}
use Rattle.phone_csv.specs.declared.blocks.RunError.{RunError}
use Rattle.phone_lines.specs.Ends.{Devices}
use Rattle.phone_values.specs.declared.reading.Reading.{Reading}
use Rattle.phone_table.specs.Answers.{IsAnswerOf, IsOfOtherWidth}
use Rattle.phone_table.specs.Ends.{Ends}
use Rattle.phone_table.proofs.EndsWeaker.{ends_weaker}
use Rattle.phone_table.proofs.Summing.{sums_none, sums_one}
use Rattle.phone_table.proofs.Writing.{some_told, told}
use Rattle.phone_table.specs.Counts.{no_counts}
use Rattle.phone_table.specs.Summaries.{IsEmpty}
use Rattle.phone_table.specs.Answered.{Answered, AreAnswered, has_key, key_in}
use Rattle.phone_table.specs.Rows.{AreKept, WritesKept, WritesSome, is_taken}
use Rattle.phone_table.specs.Summed.{IsSummed, totals_of}
use Rattle.phone_table.specs.Answered.AreAnswered.{none as none_answered, next as next_answered}
use Rattle.phone_table.specs.Rows.AreKept.{none as none_kept, kept as one_kept, left_out as one_left_out}
use Rattle.phone_table.specs.Runs.{WritesSomeTable, WritesTable, names_in}
use Rattle.phone_table.specs.Taking.{Keeps, Takes, has, is_known}
use Rattle.phone_table.specs.Taking.Takes.{written as row_written, left_out as row_left_out}
use Rattle.phone_table.specs.declared.table.Table.{Table}

-- what may be done with a record
abbrev pub does : Table → Record → Option Record → Table → Type 0
does t fields answer after = Takes t fields after answer

or_false : (b : Bool) → (b || false) ≡ b
or_false true = refl
or_false false = refl

or_swap : (a b : Bool) → (a || b) ≡ (b || a)
or_swap true true = refl
or_swap true false = refl
or_swap false true = refl
or_swap false false = refl

-- the records so far, the rows that are kept, and what the table has kept of them
pub record Stands (first : Table) (all : List Answered) (rows : List Record) (now : Table) : Type 0 where
  pub engine : now.engine ≡ first.engine
  pub asked : now.asked ≡ first.asked
  pub columns : now.columns ≡ first.columns
  pub kept : AreKept first.asked.is_unique all rows now.counts
  pub keys : (text : List ℕ) → first.asked.is_unique ≡ true → has now text ≡ list_any (has_key text) all
  pub summed : IsSummed first.asked all now.summary

module _ (first : Table) where
  abbrev is_unique : Bool
  is_unique = first.asked.is_unique

  -- a key is known exactly where an earlier record has it
  known : (all : List Answered) (rows : List Record) (now : Table) (key : Option (List ℕ)) → Stands first all rows now →
      (now.asked.is_unique && is_known now key) ≡ (is_unique && is_taken all key)
  known all rows now key s = ap (λ a. a.is_unique && is_known now key) s.asked ∙ by is_unique refl
    where
      within : (o : Option (List ℕ)) → is_unique ≡ true → is_known now o ≡ is_taken all o
      within None u = refl
      within (Some k) u = s.keys k u

      by : (u : Bool) → is_unique ≡ u → (u && is_known now key) ≡ (u && is_taken all key)
      by true e = within key e
      by false e = refl

  -- one more record
  keys_after : (all : List Answered) (rows : List Record) (now after : Table) (a : Answered) → Stands first all rows now → Keeps now a.key after →
      (text : List ℕ) → is_unique ≡ true → has after text ≡ list_any (has_key text) (all ++ a ∷ [])
  keys_after all rows now after a s k text u =
      let same = ap (λ x. x.is_unique) s.asked ∙ u in
      let among : List Answered → Bool = list_any (has_key text) in
      k.keys text same ∙ ap (λ b. has_key text a || b) (s.keys text u) ∙ or_swap (has_key text a) (among all)
      ∙ ap (λ b. among all || b) (sym (or_false (has_key text a))) ∙ sym (list_any-append (has_key text) all (a ∷ []))

  abbrev pub gives : Record → Option Reading → Record → Type 0
  gives = IsAnswerOf first.engine.rules first.engine.database.now first.engine.hint first.columns first.asked

  -- a record with its answer, of which this number was read
  abbrev answered_so : Record → Record → Option Reading → Answered
  answered_so fields answer number = record { own = fields; answer = answer; key = key_in number }

  pub rows_kept : first.counts ≡ no_counts → first.keys.keys ≡ [] → IsEmpty first.summary → (records rows : List Record) (last : Table) → AreRows does first records rows last →
      (all : List Answered) × AreAnswered gives records all × Stands first all rows last
  rows_kept counts keys fresh records rows last none = (
    [],
    none_answered,
    record {
      engine = refl;
      asked = refl;
      columns = refl;
      kept = rw counts none_kept;
      keys = λ text u. ap (list_any (λ k. bytes_eq text k.items)) keys;
      summed = sums_none first.asked first.summary fresh;
    },
  )
  rows_kept counts keys fresh records rows last (answered some before now fields answer after are (row_written number given is new k counted said sums)) =
      let (all, answers, s) = rows_kept counts keys fresh some before now are in
      let a = answered_so fields answer number in (
        all ++ a ∷ [],
        next_answered some all fields answer number answers (rw (s.engine, s.columns, s.asked) at is),
        record {
          engine = k.engine ∙ s.engine;
          asked = k.asked ∙ s.asked;
          columns = k.columns ∙ s.columns;
          kept = rw counted (one_kept all before now.counts a s.kept (sym (known all before now (key_in number) s) ∙ new));
          keys = keys_after all before now last a s k;
          summed = sums_one first.asked all a now.summary last.summary s.summed (rw s.asked at sums);
        },
      )
  rows_kept counts keys fresh records rows last (left_out some before now fields after are (row_left_out number answer is new k counted said sums)) =
      let (all, answers, s) = rows_kept counts keys fresh some before now are in
      let a = answered_so fields answer number in (
        all ++ a ∷ [],
        next_answered some all fields answer number answers (rw (s.engine, s.columns, s.asked) at is),
        record {
          engine = k.engine ∙ s.engine;
          asked = k.asked ∙ s.asked;
          columns = k.columns ∙ s.columns;
          kept = rw counted (one_left_out all before now.counts a s.kept (sym (known all before now (key_in number) s) ∙ new));
          keys = keys_after all before now last a s k;
          summed = sums_one first.asked all a now.summary last.summary s.summed (rw s.asked at sums);
        },
      )

  -- what is written is the text of the rows that are kept
  pub writes_kept : first.counts ≡ no_counts → first.keys.keys ≡ [] → IsEmpty first.summary → (last : Table) (format : Format) (records : List Record) (text : List ℕ) →
      WritesRows does format first last records text →
      WritesKept gives false first.asked.is_unique (λ all. IsSummed first.asked all last.summary) last.counts format records text
  writes_kept counts keys fresh last format records text (rows, are, is) =
      let (all, answers, s) = rows_kept counts keys fresh records rows last are in
      (all, rows, answers, s.kept, s.summed, is)

  pub writes_some : first.counts ≡ no_counts → first.keys.keys ≡ [] → IsEmpty first.summary → (format : Format) (records : List Record) (text : List ℕ) →
      WritesSomeRows does format first records text →
      WritesSome gives false first.asked.is_unique format records text
  writes_some counts keys fresh format records text (last, w) =
      let (all, rows, answers, those, sums, is) = writes_kept counts keys fresh last format records text w in
      (last.counts, (all, rows, answers, those, tt, is))

  -- the columns and what is asked for stay
  pub same_refused : first.counts ≡ no_counts → first.keys.keys ≡ [] → IsEmpty first.summary → (records rows : List Record) (last : Table) → AreRows does first records rows last →
      (last.columns ≡ first.columns) × (last.asked ≡ first.asked)
  same_refused counts keys fresh records rows last are = let r = rows_kept counts keys fresh records rows last are in (r.2.columns, r.2.asked)

-- a run over the rows of a table ends as what is kept of them tells
pub table_ends : (first : Table) → first.counts ≡ no_counts → first.keys.keys ≡ [] → IsEmpty first.summary → (last : Table) (header added : Record) (d : ℕ) (before after : Devices) (r : Result ⊤ RunError) →
    Ends header added (told does first last) (some_told does first) (IsOfOtherWidth last.columns last.asked) d before after r →
    Ends header added (WritesKept (gives first) false first.asked.is_unique (λ all. IsSummed first.asked all last.summary) last.counts) (WritesSome (gives first) false first.asked.is_unique)
    (IsOfOtherWidth first.columns first.asked) d before after r
table_ends first counts keys fresh last header added d before after r h = ends_weaker header added d _ _ _ _ _ _ (writes_kept first counts keys fresh last) (writes_some first counts keys fresh)
    (λ format records text fields (rows, are, is) refused. let same = same_refused first counts keys fresh records rows last are in rw (same.0, same.1) at refused)
    before after r h

-- so does one without the columns of duplicates
pub plain_ends : (first : Table) → first.counts ≡ no_counts → first.keys.keys ≡ [] → IsEmpty first.summary → first.asked.tells_duplicates ≡ false → (last : Table) (header : Record)
    (before after : Devices) (r : Result ⊤ RunError) →
    Ends header (names_in first.asked) (told does first last) (some_told does first) (IsOfOtherWidth last.columns last.asked) first.asked.delimiter before after r →
    Ends header (names_in first.asked)
    (WritesTable first.engine.rules first.engine.database.now first.engine.hint first.columns first.asked (totals_of last))
    (WritesSomeTable first.engine.rules first.engine.database.now first.engine.hint first.columns first.asked)
    (IsOfOtherWidth first.columns first.asked) first.asked.delimiter before after r
plain_ends first counts keys fresh plain last header before after r h =
    subst (λ b. Ends header (names_in first.asked) (WritesKept (gives first) b first.asked.is_unique (λ all. IsSummed first.asked all last.summary) last.counts)
    (WritesSome (gives first) b first.asked.is_unique) (IsOfOtherWidth first.columns first.asked) first.asked.delimiter before after r) (sym plain)
    (table_ends first counts keys fresh last header (names_in first.asked) first.asked.delimiter before after r h)
