-- The text for a table, read again.
use Rattle.std.proofs.Common.{◌≡◌, ◌≢◌, ◌⊎◌, inl, inr, ℕ, ◌+◌, Bool, true, false, List, [], ◌∷◌, ◌++◌}
use Rattle.std.proofs.Common.{refl, sym, ap, subst, Option}
use Rattle.std.proofs.Common.{◌∙◌, true≢false, append_assoc}
use Rattle.csv.specs.Reading.{is_bom, strip_bom}
use Rattle.csv.specs.Reading.{AreRecords}
use Rattle.csv.specs.declared.parser.State.TheVariants.{StartRecord}
use Rattle.std.specs.List.{AllByRecursion}
use Rattle.phone_csv.proofs.ReadAgain as csv
use Rattle.phone_csv.proofs.ReadAgain.{IsFull, all_append, first_all, first_read_again, more_full}
use Rattle.phone_csv.specs.Firsts.{begins_with_mark}
use Rattle.phone_csv.specs.Formats.{Record, commas, line_end_in, reading, record_text}
use Rattle.phone_csv.specs.RecordReports.{IsReport}
use Rattle.phone_table.specs.Ends.{by}
use Rattle.phone_table.specs.Answered.{Answered, AreAnswered, key_in}
use Rattle.phone_table.specs.Duplicates.{marked_rows, marks, shared_of}
use Rattle.phone_table.specs.Rows.{AreKept, AreWritten, WritesKept, row_of}
use Rattle.phone_values.specs.declared.reading.Reading.{Reading}
use Rattle.phone_table.specs.Answered.AreAnswered.{none as none_answered, next as next_answered}
use Rattle.phone_table.specs.Rows.AreKept.{none as none_kept, kept as one_kept, left_out as one_left_out}
use Rattle.phone_table.specs.declared.counts.Counts.{Counts}
use Rattle.phone_table.specs.Tables.{IsReadAgain, IsTable, mark_text}

-- a header that names are put behind is no empty one
no_names : (header marks headings : Record) (name : List ℕ) (names : Record) → header ++ (marks ++ (headings ++ name ∷ names)) ≢ []
no_names [] [] [] name names e = cc e
no_names [] [] (h ∷ hs) name names e = cc e
no_names [] (m ∷ ms) headings name names e = cc e
no_names (h ∷ hs) marks headings name names e = cc e

-- nothing is passed over where no mark stands
no_mark : (text : List ℕ) → begins_with_mark text ≡ false → strip_bom text ≡ text
unfolding strip_bom
no_mark [] h = refl
no_mark (a ∷ []) h = refl
no_mark (a ∷ b ∷ []) h = refl
no_mark (a ∷ b ∷ c ∷ rest) h = by (is_bom a b c) refl
  where
    by : (x : Bool) → is_bom a b c ≡ x → strip_bom (a ∷ b ∷ c ∷ rest) ≡ a ∷ b ∷ c ∷ rest
    by true e = absurd (true≢false (sym e ∙ h))
    by false e = rw e refl

passed : (marked : Bool) (written : List ℕ) → (marked ≡ true) ⊎ (begins_with_mark written ≡ false) →
    strip_bom (mark_text marked ++ written) ≡ written
unfolding strip_bom
passed true written h = refl
passed false written (inl e) = absurd (true≢false (sym e))
passed false written (inr e) = no_mark written e

-- each record has a field of its own
abbrev HaveOwn : List Answered → Type 0
HaveOwn all = AllByRecursion (λ a. IsFull a.own) all

own_append : (xs ys : List Answered) → HaveOwn xs → HaveOwn ys → HaveOwn (xs ++ ys)
own_append [] ys a b = b
own_append (x ∷ xs) ys a b = (a.0, own_append xs ys a.1 b)

own_parts : (xs ys : List Answered) → HaveOwn (xs ++ ys) → HaveOwn xs × HaveOwn ys
own_parts [] ys all = (tt, all)
own_parts (x ∷ xs) ys all = let r = own_parts xs ys all.1 in ((all.0, r.0), r.1)

all_own : (gives : Record → Option Reading → Record → Type 0) (records : List Record) (all : List Answered) → AreAnswered gives records all → AllByRecursion IsFull records → HaveOwn all
all_own gives records all none_answered full = tt
all_own gives records all (next_answered some before fields answer number are given) full =
    let parts = first_all some (fields ∷ []) full in
    own_append before (record { own = fields; answer = answer; key = key_in number } ∷ []) (all_own gives some before are parts.0) (parts.1.0, tt)

-- so each row that is kept has a field
kept_full : (once : Bool) (all : List Answered) (rows : List Record) (counts : Counts) → AreKept once all rows counts → HaveOwn all → AllByRecursion IsFull rows
kept_full once all rows counts none_kept full = tt
kept_full once all rows counts (one_kept some before c a are new) full =
    let parts = own_parts some (a ∷ []) full in
    all_append before (row_of a ∷ []) (kept_full once some before c are parts.0) (more_full a.own a.answer parts.1.0, tt)
kept_full once all rows counts (one_left_out some before c a are known) full = kept_full once some before c are (own_parts some (a ∷ []) full).0

-- and each with the columns of duplicates
marked_full : (all : List Answered) (number : ℕ) (some : List Answered) → HaveOwn some → AllByRecursion IsFull (marked_rows all number some)
marked_full all number [] full = tt
marked_full all number (a ∷ more) full = (more_full a.own (marks (shared_of all a) number ++ a.answer) full.0, marked_full all (number + 1) more full.1)

written_full : (marks once : Bool) (all : List Answered) (rows : List Record) (counts : Counts) → AreWritten marks once all rows counts → HaveOwn all → AllByRecursion IsFull rows
written_full true once all rows counts (is, plain) full = rw is (marked_full all 2 all full)
written_full false once all rows counts kept full = kept_full once all rows counts kept full

pub read_back : (gives : Record → Option Reading → Record → Type 0) (told once : Bool) (holds : List Answered → Type 0) (counts : Counts) (header marks headings : Record) (name : List ℕ) (names : Record)
    (bytes text : List ℕ) →
    IsTable header (marks ++ (headings ++ name ∷ names))
    (by IsReport (WritesKept gives told once holds counts)) 44 bytes text → IsReadAgain gives told once counts header
    (marks ++ (headings ++ name ∷ names)) bytes text
read_back gives told once holds counts header marks headings name names bytes text t =
    let first = header ++ (marks ++ (headings ++ name ∷ names)) in
    let (records, read, (all, rows, answers, keep, also, is)) = t.answered in
    let full = written_full told once all rows counts keep (all_own gives records all answers (csv.all_full 44 t.after t.rest records read)) in
    let end = line_end_in t.after in
    let marked = begins_with_mark bytes in
    let split = t.whole ∙ append_assoc (mark_text marked) _ t.body in
    record {
      after = t.after;
      rest = t.rest;
      records = records;
      all = all;
      rows = rows;
      written = _;
      begins = t.begins;
      read = read;
      answered = answers;
      kept = keep;
      whole = split;
      again = subst (λ body. AreRecords (reading 44) StartRecord (record_text (commas end) first ++ body) (first ∷ rows)) (sym is)
          (first_read_again end first rows (no_names header marks headings name names) full);
      behind_mark = λ h. ap strip_bom split ∙ passed marked _ h;
    }
