-- What was written, read again.
use Rattle.std.proofs.Common.{◌≡◌, ◌≢◌, Bool, ℕ, List, [], ◌∷◌, ◌++◌, Option, Some, None, true, false, if◌then◌else◌, refl, sym, ap, subst, ◌∙◌, append_assoc, ◌≤◌, length, arith}
use Rattle.std.proofs.lemmas.Option.{same_Some}
use Rattle.csv.specs.Machine.{Read, ends_at_end, field_after, fields_after, is_end, next_record, step}
use Rattle.csv.specs.Reading.{AreRecords, Reached, records_next}
use Rattle.csv.specs.Writing.{default_writer, is_blank, read_back, row_body, row_text}
use Rattle.csv.specs.declared.parser.Action.{Action}
use Rattle.csv.specs.declared.parser.Action.TheVariants as act
use Rattle.csv.specs.declared.parser.Config.{Config}
use Rattle.csv.specs.declared.parser.State.{State}
use Rattle.csv.specs.declared.parser.State.TheVariants as st
use Rattle.csv.proofs.RoundTrip.{read-write}
use Rattle.phone_csv.specs.Formats.{Record, commas, reading, record_body, record_text}
use Rattle.phone_csv.specs.declared.format.LineEnd.{LineEnd}
use Rattle.phone_csv.specs.declared.format.LineEnd.TheVariants as line_end
use Rattle.phone_csv.specs.Records.{AreCut, IsEnded}
use Rattle.phone_csv.specs.Records.AreCut.{none as uncut, next as cut}
use Rattle.phone_csv.specs.RecordReports.{AreAll, AreRows, Gives, WritesRows, last_record, rows_text}
use Rattle.phone_csv.specs.RecordReports.AreRows.{none, answered, left_out}
use Rattle.phone_csv.proofs.Progress.{feeds_then}
use Rattle.std.specs.List.{AllByRecursion}

-- a record has a field at least
abbrev pub IsFull : Record → Type 0
IsFull fields = fields ≢ []

pushed_full : (fields : Record) (field : List ℕ) → IsFull (fields ++ field ∷ [])
pushed_full [] field e = cc e
pushed_full (f ∷ fs) field e = cc e

full_after : (a : Action) (fields : Record) (field : List ℕ) → is_end a ≡ true → IsFull (fields_after a fields field)
full_after act.Skip fields field e = cc e
full_after act.Copy fields field e = cc e
full_after act.EndField fields field e = cc e
full_after act.EndRecord fields field e = pushed_full fields field

same_full : (p q : Read) → Some p ≡ Some q → IsFull p.0 → IsFull q.0
same_full p q e full = subst (λ (r : Read). IsFull r.0) (same_Some p q e) full

-- and so has each one that is read
next_full : (cfg : Config) (s : State) (f : Record) (p x : List ℕ) (r : Read) → next_record cfg s f p x ≡ Some r → IsFull r.0
unfolding next_record
next_full cfg s f p [] r e = by (ends_at_end s) refl
  where
    by : (b : Bool) → ends_at_end s ≡ b → IsFull r.0
    by true h = same_full (f ++ p ∷ [], st.StartRecord, []) r (rw h at e) (pushed_full f p)
    by false h = absurd (cc (rw h at e))
next_full cfg s f p (c ∷ x) r e = by (is_end (step cfg s c).1) refl (next_full cfg (step cfg s c).0 (fields_after (step cfg s c).1 f p) (field_after (step cfg s c).1 c p) x r)
  where
    by : (b : Bool) → is_end (step cfg s c).1 ≡ b →
        (next_record cfg (step cfg s c).0 (fields_after (step cfg s c).1 f p) (field_after (step cfg s c).1 c p) x ≡ Some r → IsFull r.0) → IsFull r.0
    by true h on = same_full (fields_after (step cfg s c).1 f p, (step cfg s c).0, x) r (rw h at e) (full_after (step cfg s c).1 f p h)
    by false h on = on (rw h at e)

ended_full : (d : ℕ) (before after : State) (part : List ℕ) (fields : Record) → IsEnded d before part fields after → IsFull fields
ended_full d before after part fields (field, fed) =
    next_full (reading d) before [] [] (part ++ []) (fields, after, []) (feeds_then (reading d) before after [] fields [] field part [] true fed)

cut_full : (d : ℕ) (start state : State) (bytes rest : List ℕ) (records : List Record) → AreCut d start bytes records state rest → AllByRecursion IsFull records
cut_full d start state bytes rest records (uncut s r) = tt
cut_full d start state bytes rest records (cut b m a part more r fields others is on) = (ended_full d b m part fields is, cut_full d m state more rest others on)

last_full : (o : Option Read) → ((r : Read) → o ≡ Some r → IsFull r.0) → AllByRecursion IsFull (records_next (λ _ _. []) o)
last_full None full = tt
last_full (Some r) full = (full r refl, tt)

pub all_append : (xs ys : List Record) → AllByRecursion IsFull xs → AllByRecursion IsFull ys → AllByRecursion IsFull (xs ++ ys)
all_append [] ys a b = b
all_append (x ∷ xs) ys a b = (a.0, all_append xs ys a.1 b)

pub all_full : (d : ℕ) (start : State) (bytes : List ℕ) (records : List Record) → AreAll d start bytes records → AllByRecursion IsFull records
all_full d start bytes records (first, state, rest, are, unended, is) =
    rw is (all_append first (last_record d state rest) (cut_full d start state bytes rest first are)
    (last_full (next_record (reading d) state [] [] rest) (next_full (reading d) state [] [] rest)))

pub more_full : (fields answer : Record) → IsFull fields → IsFull (fields ++ answer)
more_full [] answer full e = absurd (full refl)
more_full (f ∷ fs) answer full e = cc e

pub first_all : (xs ys : List Record) → AllByRecursion IsFull (xs ++ ys) → AllByRecursion IsFull xs × AllByRecursion IsFull ys
first_all [] ys all = (tt, all)
first_all (x ∷ xs) ys all = let r = first_all xs ys all.1 in ((all.0, r.0), r.1)

-- and so is each row for such records
rows_full : {Kept : Type 0} (gives : Gives Kept) (first last : Kept) (records rows : List Record) → AreRows gives first records rows last →
    AllByRecursion IsFull records → AllByRecursion IsFull rows
rows_full gives first last records rows none full = tt
rows_full gives first last records rows (answered some before kept fields answer after are given) full =
    let parts = first_all some (fields ∷ []) full in
    all_append before ((fields ++ answer) ∷ []) (rows_full gives first kept some before are parts.0) (more_full fields answer parts.1.0, tt)
rows_full gives first last records rows (left_out some before kept fields after are given) full =
    rows_full gives first kept some before are (first_all some (fields ∷ []) full).0

read_full : (fields : Record) → IsFull fields → read_back fields ≡ fields
read_full [] full = absurd (full refl)
read_full (f ∷ fs) full = refl

-- such a record is written as the kit writes it
kit_text : (fields : Record) → record_text (commas line_end.Feed) fields ≡ row_text default_writer fields
kit_text fields = append_assoc (row_body default_writer fields) (if is_blank default_writer fields then 34 ∷ 34 ∷ [] else []) (10 ∷ [])

-- each record that was written is read again
read_rows : (rows : List Record) → AllByRecursion IsFull rows → Reached (reading 44) st.StartRecord (rows_text (commas line_end.Feed) rows) rows st.StartRecord []
unfolding Reached
read_rows [] full = (refl, refl)
read_rows (row ∷ rows) full =
    let more = rows_text (commas line_end.Feed) rows in
    let e = ap (λ t. next_record (reading 44) st.StartRecord [] [] (t ++ more)) (kit_text row) ∙ read-write row more ∙ ap (λ r. Some (r, st.StartRecord, more)) (read_full row full.0) in
    ((row, st.StartRecord, more), e, refl, read_rows rows full.1)

nothing_left : next_record (reading 44) st.StartRecord [] [] [] ≡ None
unfolding next_record
nothing_left = refl

-- a read leaves no more bytes than stand behind the first one
left_within : (cfg : Config) (s : State) (f : Record) (p : List ℕ) (c : ℕ) (x : List ℕ) (r : Read) → next_record cfg s f p (c ∷ x) ≡ Some r → length r.2 ≤ length x
unfolding next_record
left_within cfg s f p c [] r e = by (is_end (step cfg s c).1) refl
  where
    at_end : (b : Bool) → ends_at_end (step cfg s c).0 ≡ b → is_end (step cfg s c).1 ≡ false → length r.2 ≤ 0
    at_end true k h = omega (arith, ap (λ (q : Read). length q.2) (same_Some _ r (rw (h, k) at e)))
    at_end false k h = absurd (cc (rw (h, k) at e))

    by : (b : Bool) → is_end (step cfg s c).1 ≡ b → length r.2 ≤ 0
    by true h = omega (arith, ap (λ (q : Read). length q.2) (same_Some _ r (rw h at e)))
    by false h = at_end (ends_at_end (step cfg s c).0) refl h
left_within cfg s f p c (d ∷ x) r e =
    by (is_end (step cfg s c).1) refl (left_within cfg (step cfg s c).0 (fields_after (step cfg s c).1 f p) (field_after (step cfg s c).1 c p) d x r)
  where
    by : (b : Bool) → is_end (step cfg s c).1 ≡ b →
        (next_record cfg (step cfg s c).0 (fields_after (step cfg s c).1 f p) (field_after (step cfg s c).1 c p) (d ∷ x) ≡ Some r → length r.2 ≤ length x) →
        length r.2 ≤ length (d ∷ x)
    by true h on = omega (arith, ap (λ (q : Read). length q.2) (same_Some _ r (rw h at e)))
    by false h on = omega (arith, on (rw h at e))

-- so none leaves them all
none_left : (s : State) (f : Record) (p : List ℕ) (fields : Record) (t : State) → next_record (reading 44) s f p (0 ∷ []) ≡ Some (fields, t, 0 ∷ []) → ⊥
none_left s f p fields t e = omega (arith, left_within (reading 44) s f p 0 [] (fields, t, 0 ∷ []) e)

-- where a line feed ends a record, a carriage return does, whatever follows
return_ends : (s : State) (f : Record) (p : List ℕ) (fields : Record) →
    ((u : List ℕ) → next_record (reading 44) s f p (10 ∷ u) ≡ Some (fields, st.StartRecord, u)) →
    (u : List ℕ) → next_record (reading 44) s f p (13 ∷ u) ≡ Some (fields, st.AfterCr, u)
unfolding next_record
return_ends st.StartRecord f p fields h u = absurd (none_left st.StartRecord f p fields st.StartRecord (h (0 ∷ [])))
return_ends st.StartField f p fields h u = ap (λ (q : Read). Some (q.0, st.AfterCr, u)) (same_Some _ _ (h u))
return_ends st.InField f p fields h u = ap (λ (q : Read). Some (q.0, st.AfterCr, u)) (same_Some _ _ (h u))
return_ends st.InQuoted f p fields h u = absurd (none_left st.InQuoted f (p ++ 10 ∷ []) fields st.StartRecord (h (0 ∷ [])))
return_ends st.InEscape f p fields h u = absurd (none_left st.InQuoted f (p ++ 10 ∷ []) fields st.StartRecord (h (0 ∷ [])))
return_ends st.AfterQuote f p fields h u = ap (λ (q : Read). Some (q.0, st.AfterCr, u)) (same_Some _ _ (h u))
return_ends st.InComment f p fields h u = absurd (none_left st.StartRecord f p fields st.StartRecord (h (0 ∷ [])))
return_ends st.AfterCr f p fields h u = absurd (none_left st.StartRecord f p fields st.StartRecord (h (0 ∷ [])))

no_end : (t : List ℕ) → t ++ 10 ∷ [] ≡ [] → ⊥
no_end [] e = cc e
no_end (c ∷ t) e = cc e

with_return : (s : State) (f : Record) (p t : List ℕ) (fields : Record) →
    ((u : List ℕ) → next_record (reading 44) s f p (t ++ 10 ∷ u) ≡ Some (fields, st.StartRecord, u)) →
    (u : List ℕ) → next_record (reading 44) s f p (t ++ 13 ∷ u) ≡ Some (fields, st.AfterCr, u)
unfolding next_record
with_return s f p [] fields h u = return_ends s f p fields h u
with_return s f p (c ∷ t) fields h u =
    by (is_end (step (reading 44) s c).1) refl (with_return (step (reading 44) s c).0 (fields_after (step (reading 44) s c).1 f p) (field_after (step (reading 44) s c).1 c p) t fields)
  where
    by : (b : Bool) → is_end (step (reading 44) s c).1 ≡ b →
        (((v : List ℕ) → next_record (reading 44) (step (reading 44) s c).0 (fields_after (step (reading 44) s c).1 f p) (field_after (step (reading 44) s c).1 c p) (t ++ 10 ∷ v)
        ≡ Some (fields, st.StartRecord, v)) →
        (v : List ℕ) → next_record (reading 44) (step (reading 44) s c).0 (fields_after (step (reading 44) s c).1 f p) (field_after (step (reading 44) s c).1 c p) (t ++ 13 ∷ v)
        ≡ Some (fields, st.AfterCr, v)) → next_record (reading 44) s f p (c ∷ (t ++ 13 ∷ u)) ≡ Some (fields, st.AfterCr, u)
    by true e on = absurd (no_end t (ap (λ (q : Read). q.2) (same_Some _ _ (rw e at (h [])))))
    by false e on = rw e (on (λ v. rw e at (h v)) u)

-- the text of a record with a carriage return and a line feed, read
row_read : (fields : Record) (u : List ℕ) →
    next_record (reading 44) st.StartRecord [] [] (record_text (commas line_end.ReturnFeed) fields ++ u) ≡ Some (read_back fields, st.AfterCr, 10 ∷ u)
row_read fields u =
    let read = next_record (reading 44) st.StartRecord [] [] in
    let body = record_body 44 fields in
    ap read (append_assoc body (13 ∷ 10 ∷ []) u)
    ∙ with_return st.StartRecord [] [] body (read_back fields) (λ v. ap read (sym (append_assoc body (10 ∷ []) v)) ∙ ap (λ t. read (t ++ v)) (kit_text fields) ∙ read-write fields v) (10 ∷ u)

-- where the text stands behind a record: a line feed may still be to come
abbrev place_at : Bool → State
place_at true = st.AfterCr
place_at false = st.StartRecord

abbrev to_come : Bool → List ℕ
to_come true = 10 ∷ []
to_come false = []

skipped : (b : Bool) (rest : List ℕ) → next_record (reading 44) (place_at b) [] [] (to_come b ++ rest) ≡ next_record (reading 44) st.StartRecord [] [] rest
unfolding next_record
skipped true rest = refl
skipped false rest = refl

nothing_at : (b : Bool) → next_record (reading 44) (place_at b) [] [] (to_come b) ≡ None
unfolding next_record
nothing_at true = refl
nothing_at false = refl

nothing_read : (b : Bool) → Reached (reading 44) (place_at b) (to_come b ++ []) [] (place_at b) (to_come b)
unfolding Reached
nothing_read true = (refl, refl)
nothing_read false = (refl, refl)

read_returns : (b : Bool) (rows : List Record) → AllByRecursion IsFull rows →
    (last : Bool) × Reached (reading 44) (place_at b) (to_come b ++ rows_text (commas line_end.ReturnFeed) rows) rows (place_at last) (to_come last)
unfolding Reached
read_returns b [] full = (b, nothing_read b)
read_returns b (row ∷ rows) full =
    let more = rows_text (commas line_end.ReturnFeed) rows in
    let r = read_returns true rows full.1 in
    let e = skipped b (record_text (commas line_end.ReturnFeed) row ++ more) ∙ row_read row more ∙ ap (λ r. Some (r, st.AfterCr, 10 ∷ more)) (read_full row full.0) in
    (r.0, ((row, st.AfterCr, 10 ∷ more), e, refl, r.1))

-- whatever stands behind the records
rows_read_again : (end : LineEnd) (rows : List Record) → AllByRecursion IsFull rows → AreRecords (reading 44) st.StartRecord (rows_text (commas end) rows) rows
rows_read_again line_end.Feed rows full = (st.StartRecord, [], read_rows rows full, nothing_left)
rows_read_again line_end.ReturnFeed rows full = let r = read_returns false rows full in (place_at r.0, to_come r.0, r.1, nothing_at r.0)

-- and a first record that was written
pub first_read_again : (end : LineEnd) (first : Record) (rows : List Record) → IsFull first → AllByRecursion IsFull rows →
    AreRecords (reading 44) st.StartRecord (record_text (commas end) first ++ rows_text (commas end) rows) (first ∷ rows)
first_read_again end first rows full all = rows_read_again end (first ∷ rows) (full, all)

module _ {Kept : Type 0} (gives : Gives Kept) (kept last : Kept) (end : LineEnd) (start : State) (bytes : List ℕ) (records : List Record) where
  pub report_read_again : (text : List ℕ) → AreAll 44 start bytes records → (w : WritesRows gives (commas end) kept last records text) →
      AreRecords (reading 44) st.StartRecord text w.0
  report_read_again text all (rows, are, is) = subst (λ t. AreRecords (reading 44) st.StartRecord t rows) (sym is)
      (rows_read_again end rows (rows_full gives kept last records rows are (all_full 44 start bytes records all)))

  pub table_read_again : (first : Record) (body : List ℕ) → first ≢ [] → AreAll 44 start bytes records → (w : WritesRows gives (commas end) kept last records body) →
      AreRecords (reading 44) st.StartRecord (record_text (commas end) first ++ body) (first ∷ w.0)
  table_read_again first body full all (rows, are, is) = subst (λ t. AreRecords (reading 44) st.StartRecord (record_text (commas end) first ++ t) (first ∷ rows)) (sym is)
      (first_read_again end first rows full (rows_full gives kept last records rows are (all_full 44 start bytes records all)))
