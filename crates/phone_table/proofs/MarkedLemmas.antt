-- How the run over a table with the columns of duplicates ends.
use Rattle.std.proofs.Common.{◌≡◌, inr, ℕ, ◌+◌, Bool, true, List, [], ◌++◌, Option, Some, None, Result, Ok, Err, IfErr, IfSome, IsNone, refl, sym, ap, subst, ◌∙◌}
use Rattle.std.specs.Prelude.{⊤}
use Rattle.csv.specs.declared.parser.State.{State}
use Rattle.csv.specs.declared.parser.State.TheVariants as st
use Rattle.phone_device.specs.Passing.{IsAtEnd, PassesSome, Takes, TakesFront}
use Rattle.phone_device.proofs.PassingLemmas.{Passes-then}
use Rattle.phone_csv.specs.Firsts.{begins_with_mark}
use Rattle.phone_csv.specs.Formats.{Record, format_after, state_behind, state_of}
use Rattle.phone_csv.specs.RecordReports.{IsReport, Writes, WritesRows, WritesSomeRows, rows_text}
use Rattle.phone_csv.specs.Runs.{OfRead}
use Rattle.phone_csv.proofs.AnswerLemmas.{writes_nothing}
use Rattle.phone_csv.specs.declared.blocks.RunError.{RunError}
use Rattle.phone_csv.specs.declared.blocks.RunError.TheVariants as error
use Rattle.phone_csv.specs.declared.cutter.Start.{Start}
use Rattle.phone_csv.specs.declared.format.Format.{Format}
use Rattle.phone_lines.specs.Ends.{Devices, seen}
use Rattle.phone_table.specs.Summaries.{IsEmpty}
use Rattle.phone_table.specs.Answers.{IsOfOtherWidth}
use Rattle.phone_table.specs.Counts.{no_counts}
use Rattle.phone_table.specs.Duplicates.{marked_rows}
use Rattle.phone_table.specs.Ends.{Ends, by}
use Rattle.phone_table.specs.Ends.Ends.{output_failed, whole}
use Rattle.phone_table.specs.Held as held
use Rattle.phone_table.specs.Rows.{WritesKept}
use Rattle.phone_table.specs.Runs.{RowsEnd, WritesSomeTable, WritesTable, names_in}
use Rattle.phone_table.specs.Runs.RowsEnd.{whole as all_written, broken_off as not_written}
use Rattle.phone_table.specs.Summed.{IsSummed, totals_of}
use Rattle.phone_table.specs.Tables.{IsHeader, IsTable, head_text}
use Rattle.phone_table.specs.Unwritten.{IsUnwritten, WritesNone}
use Rattle.phone_table.specs.Unwritten.IsUnwritten.{broken_off}
use Rattle.phone_table.specs.declared.holder.Holder.{Holder}
use Rattle.phone_table.specs.declared.table.Table.{Table}
use Rattle.phone_table.proofs.EndsWeaker.{ends_weaker}
use Rattle.phone_table.specs.Held.{holds}
use Rattle.phone_table.proofs.HeldLemmas.{all_held}
use Rattle.phone_table.proofs.Kept.{gives}
use Rattle.phone_table.proofs.TableLemmas.{no_records}

module _ (d : ℕ) (header added : Record) (has_mark : Bool) (is_body : Format → State → List ℕ → List ℕ → Type 0) (body : List ℕ) (s0 s1 : Option (List ℕ)) where
  -- the text of the table: its header, and what stands for what follows
  abbrev pub table_text : Option Start → List ℕ
  table_text rest = head_text (format_after d (state_behind rest)) has_mark (header ++ added) ++ body

  marked : (s : State) (bytes : List ℕ) → begins_with_mark bytes ≡ has_mark →
      head_text (format_after d s) has_mark (header ++ added) ++ body ≡ head_text (format_after d s) (begins_with_mark bytes) (header ++ added) ++ body
  marked s bytes e = ap (λ b. head_text (format_after d s) b (header ++ added) ++ body) (sym e)

  -- a header, and what follows it
  pub table_behind : (start : Start) (s2 : Option (List ℕ)) → OfRead s0 s1 (λ bytes. IsHeader d header (Some start) has_mark bytes) →
      OfRead s1 s2 (λ bytes. is_body (format_after d (state_of start.place)) (state_of start.place) bytes body) →
      OfRead s0 s2 (λ bytes. IsTable header added is_body d bytes (table_text (Some start)))
  table_behind start s2 read (rb, rp, on) = (
    read.0 ++ rb,
    Passes-then s0 s1 s2 read.0 rb read.1 rp,
    record {
      after = state_of start.place;
      rest = rb;
      body = body;
      begins = read.2.first rb;
      answered = on;
      whole = marked (state_of start.place) (read.0 ++ rb) (read.2.marked rb);
    },
  )

  -- a header that nothing follows
  pub table_alone : OfRead s0 s1 (λ bytes. IsHeader d header None has_mark bytes) → is_body (format_after d st.StartRecord) st.StartRecord [] body →
      OfRead s0 s1 (λ bytes. IsTable header added is_body d bytes (table_text None))
  table_alone (hb, hp, h) on = (
    hb,
    hp,
    record {
      after = st.StartRecord;
      rest = [];
      body = body;
      begins = h.first;
      answered = on;
      whole = marked st.StartRecord hb h.marked;
    },
  )

-- the text for a table, or a beginning of it, was taken
module _ (header added : Record) (writes some : Format → Writes) (refuses : Record → Type 0) (d : ℕ) (text : List ℕ) (s0 s2 w0 w2 : Option (List ℕ)) (f0 f2 k0 k2 u0 u2 : ℕ)
    (table : OfRead s0 s2 (λ bytes. IsTable header added (by IsReport writes) d bytes text)) (end : IsAtEnd s2) where
  pub taken_whole : Takes w0 text w2 → f2 ≡ f0 → k2 ≡ k0 → u2 ≡ 0 → Ends header added writes some refuses d (seen s0 f0 w0 k0 u0) (seen s2 f2 w2 k2 u2) (Ok tt)
  taken_whole took source sink handed = whole (record {
    end = end;
    table = (table.0, table.1, (text, table.2, took));
    handed_on = handed;
    no_fault = record { source = source; sink = sink };
  })

  pub taken_front : ((format : Format) (records : List Record) (text : List ℕ) → writes format records text → some format records text) → TakesFront w0 text w2 → k2 ≡ k0 + 1 →
      Ends header added writes some refuses d (seen s0 f0 w0 k0 u0) (seen s2 f2 w2 k2 u2) (Err error.Output)
  taken_front on t fault = let (bytes, read, is) = table in output_failed (record {
    beginning = (
      bytes,
      read,
      (
        t.front,
        (
          t.rest,
          record {
            after = is.after;
            rest = is.rest;
            body = is.body;
            begins = is.begins;
            answered = inr (end, let (records, all, w) = is.answered in (records, all, on _ records is.body w));
            whole = sym t.whole ∙ is.whole;
          },
        ),
        t.taken,
      ),
    );
    sink_fault = fault;
  })

module _ (first : Holder) (fresh : held.answered first.held.items ≡ []) (counts : first.table.counts ≡ no_counts) (empty : IsEmpty first.table.summary) where
  -- what is written for the records that are kept
  abbrev pub kept_text : Format → Holder → List ℕ
  kept_text format last = rows_text format (marked_rows (held.answered last.held.items) 2 (held.answered last.held.items))

  pub writes_marked : (format : Format) (last : Holder) (records : List Record) (text : List ℕ) → WritesRows holds format first last records text →
      WritesKept (gives first.table) true first.table.asked.is_unique (λ all. IsSummed first.table.asked all last.table.summary) last.table.counts format records (kept_text format last)
  writes_marked format last records text (rows, are, is) =
      let s = all_held first fresh counts empty records rows last are in
      (held.answered last.held.items, _, s.answers, (refl, (s.plain, s.counts)), s.summed, refl)

  pub writes_none : (format : Format) (last : Holder) (records : List Record) (text : List ℕ) → WritesRows holds format first last records text →
      WritesNone (gives first.table) format records text
  writes_none format last records text (rows, are, is) =
      let s = all_held first fresh counts empty records rows last are in
      (held.answered last.held.items, s.answers, is ∙ ap (rows_text format) s.unwritten)

  pub same_table : (format : Format) (last : Holder) (records : List Record) (text : List ℕ) → WritesRows holds format first last records text →
      (last.table.columns ≡ first.table.columns) × (last.table.asked ≡ first.table.asked)
  same_table format last records text (rows, are, is) = let s = all_held first fresh counts empty records rows last are in (s.columns, s.asked)

  -- a run that writes nowhere broke off
  pub unwritten_by : (last : Holder) (header added : Record) (d u : ℕ) (before after : Devices) (e : RunError) →
      Ends header added (λ format. WritesRows holds format first last) (λ format. WritesSomeRows holds format first)
      (IsOfOtherWidth last.table.columns last.table.asked) d (seen before.to_come before.source_faults None 0 0) (seen after.to_come after.source_faults None 0 u) (Err e) →
      IsUnwritten header added (WritesNone (gives first.table)) (IsOfOtherWidth first.table.columns first.table.asked) d before after e
  unwritten_by last header added d u before after e h = broken_off u e (ends_weaker header added d _ _ _ _ _ _
      (λ format. writes_none format last)
      (λ format records text (some, w). writes_none format some records text w)
      (λ format records text fields w refused. let same = same_table format last records text w in rw (same.0, same.1) at refused)
      _ _ _ h)

module _ (first : Holder) (fresh : held.answered first.held.items ≡ []) (counts : first.table.counts ≡ no_counts) (empty : IsEmpty first.table.summary) (told : first.table.asked.tells_duplicates ≡ true) where
  abbrev t : Table
  t = first.table

  abbrev d : ℕ
  d = t.asked.delimiter

  -- what is written for the records of the table
  abbrev writes : Holder → Format → Writes
  writes last = WritesTable t.engine.rules t.engine.database.now t.engine.hint t.columns t.asked (totals_of last.table)

  abbrev some_writes : Format → Writes
  some_writes = WritesSomeTable t.engine.rules t.engine.database.now t.engine.hint t.columns t.asked

  writes_table : (format : Format) (last : Holder) (records : List Record) (text : List ℕ) → WritesRows holds format first last records text →
      writes last format records (kept_text first fresh counts empty format last)
  writes_table format last records text w = subst (λ b. WritesKept (gives t) b t.asked.is_unique (λ all. IsSummed t.asked all last.table.summary) last.table.counts format records (kept_text first fresh counts empty format last)) (sym told)
      (writes_marked first fresh counts empty format last records text w)

  module _ (last : Holder) (header : Record) (rest : Option Start) (has_mark : Bool) (s0 s1 s2 : Option (List ℕ)) where
    -- the text of the table
    abbrev pub whole_text : List ℕ
    whole_text = head_text (format_after d (state_behind rest)) has_mark (header ++ names_in t.asked) ++ kept_text first fresh counts empty (format_after d (state_behind rest)) last

    abbrev Told : Type 0
    Told = OfRead s0 s2 (λ bytes. IsTable header (names_in t.asked) (by IsReport (writes last)) d bytes whole_text)

  pub table_told : (last : Holder) (header : Record) (rest : Option Start) (has_mark : Bool) (s0 s1 s2 : Option (List ℕ)) →
      OfRead s0 s1 (λ bytes. IsHeader d header rest has_mark bytes) →
      IfSome rest (λ start. OfRead s1 s2 (λ bytes. (text : List ℕ) × IsReport (WritesRows holds (format_after d (state_of start.place)) first last) d (state_of start.place) bytes text)) →
      (IsNone rest → (last ≡ first) × (s2 ≡ s1)) → Told last header rest has_mark s0 s1 s2
  table_told last header (Some start) has_mark s0 s1 s2 read (rb, rp, (text, (records, all, w))) none =
      let format = format_after d (state_of start.place) in
      table_behind d header (names_in t.asked) has_mark (by IsReport (writes last)) (kept_text first fresh counts empty format last) s0 s1 start s2 read
      (rb, rp, (records, all, writes_table format last records text w))
  table_told last header None has_mark s0 s1 s2 read more none =
      let format = format_after d st.StartRecord in
      let (same, source) = none refl in
      rw (same, source) (table_alone d header (names_in t.asked) has_mark (by IsReport (writes first)) (kept_text first fresh counts empty format first) s0 s1 read
      (no_records d header (names_in t.asked) has_mark (writes first format) (kept_text first fresh counts empty format first) (writes_table format first [] [] (writes_nothing holds format first))))

  module _ (last : Holder) (header : Record) (text : List ℕ) (s0 s2 w0 w2 : Option (List ℕ)) (f0 f2 k0 k2 u0 u2 : ℕ)
      (table : OfRead s0 s2 (λ bytes. IsTable header (names_in t.asked) (by IsReport (writes last)) d bytes text)) (end : IsAtEnd s2) where
    pub rows_whole : Takes w0 text w2 → f2 ≡ f0 → k2 ≡ k0 → u2 ≡ 0 →
        RowsEnd t.engine.rules t.engine.database.now t.engine.hint t.columns t.asked header (seen s0 f0 w0 k0 u0) (seen s2 f2 w2 k2 u2) (Ok (totals_of last.table))
    rows_whole took source sink handed = all_written (totals_of last.table)
        (taken_whole header (names_in t.asked) (writes last) some_writes (IsOfOtherWidth t.columns t.asked) d text s0 s2 w0 w2 f0 f2 k0 k2 u0 u2 table end took source sink handed)

    pub rows_front : TakesFront w0 text w2 → k2 ≡ k0 + 1 →
        RowsEnd t.engine.rules t.engine.database.now t.engine.hint t.columns t.asked header (seen s0 f0 w0 k0 u0) (seen s2 f2 w2 k2 u2) (Err error.Output)
    rows_front front fault = not_written (totals_of last.table) error.Output
        (taken_front header (names_in t.asked) (writes last) some_writes (IsOfOtherWidth t.columns t.asked) d text s0 s2 w0 w2 f0 f2 k0 k2 u0 u2 table end
        (λ format records text (all, rows, answers, those, sums, is). (last.table.counts, (all, rows, answers, those, tt, is))) front fault)

pub if_err : {T E : Type 0} (r : Result T E) (P : E → Type 0) → ((e : E) → r ≡ Err e → P e) → IfErr r P
if_err (Ok x) P f = tt
if_err (Err e) P f = f e refl

-- how a run ends, by its result
pub err_ends : (header added : Record) (writes some : Format → Writes) (refuses : Record → Type 0) (d : ℕ) (before after : Devices) (r : Result ⊤ RunError) (e : RunError) → r ≡ Err e →
    Ends header added writes some refuses d before after r → Ends header added writes some refuses d before after (Err e)
err_ends header added writes some refuses d before after r e is h = subst (λ x. Ends header added writes some refuses d before after x) is h

-- what was read of a header, and behind it
pub passed : (rest : Option Start) (s0 s1 s2 : Option (List ℕ)) (is : List ℕ → Type 0) (more : Start → List ℕ → Type 0) → OfRead s0 s1 is →
    IfSome rest (λ start. OfRead s1 s2 (more start)) → (IsNone rest → s2 ≡ s1) → PassesSome s0 s2
passed None s0 s1 s2 is more h next none = rw (none refl) (h.0, h.1)
passed (Some start) s0 s1 s2 is more h next none = (h.0 ++ next.0, Passes-then s0 s1 s2 h.0 next.0 h.1 next.1)
