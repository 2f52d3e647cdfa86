use Rattle.std.proofs.Common.{rules, ◌≡◌, ◌∷◌, ◌++◌, [], ℕ, Bool, List, Option, Some, None, Ok, if◌then◌else◌, ap, sym, subst, ◌∙◌, true, false, arith}
use Rattle.std.proofs.lemmas.List.{append-nil}
use Rattle.csv.specs.Machine.{ends_at_end}
use Rattle.csv.specs.Records.{fields_of}
use Rattle.csv.specs.declared.parser.State.TheVariants as st
use Rattle.phone_csv.specs.Firsts.{EndsNoFirst, IsFront, first_in}
use Rattle.phone_csv.specs.Formats.{state_of}
use Rattle.phone_csv.specs.Runs.{OfRead}
use Rattle.phone_csv.specs.declared.cutter.Cutter.{Cutter}
use Rattle.phone_csv.specs.declared.front.Mark.{Mark}
use Rattle.phone_csv.specs.Records.{in_quotes}
use Rattle.phone_csv.proofs.FirstLemmas.{IsFront-last, IsFront-only, IsFront-open, IsFront-unended, same_line}
use Rattle.phone_csv.proofs.first.first_record.Goals as goal

-- the first record of a source that ended before a byte ended it
at_end : (before after : Option (List ℕ)) (m : Mark) (c : Cutter) (d : ℕ) (b : Bool) → OfRead before after (λ bytes. IsFront m bytes c) →
    c.format.delimiter ≡ d → ends_at_end (state_of c.place) ≡ b →
    OfRead before after (λ bytes. first_in d bytes ≡ if b then Some (fields_of c.fields ++ c.field.items ∷ [], st.StartRecord, []) else None)
at_end before after m c d b was same e = (
  was.0,
  was.1,
  subst (λ d. first_in d was.0 ≡ if b then Some (fields_of c.fields ++ c.field.items ∷ [], st.StartRecord, []) else None) same (IsFront-last m was.0 c b was.2 e),
)

pub returns-then-not-is_open-clause-absent : goal.returns-then-not-is_open-clause-absent
returns-then-not-is_open-clause-absent g c is =
    let r = c.in_ok-is_ended.ensures in
    let e : c.in_ok-is_ended.is_ended ≡ false = search rules in
    let closed : ends_at_end (state_of c.read.new.self.cutter.place) ≡ false = search rules in
    at_end _ _ c.read.new.self.mark c.read.new.self.cutter _ false (r.front (ap Ok e)) (ap (λ f. f.delimiter) r.format ∙ c.new-front.ensures.delimiter) closed

pub returns-in-Ok-clause-only : goal.returns-in-Ok-clause-only
returns-in-Ok-clause-only g c is =
    let r = c.in_ok-is_ended.ensures in
    let e : c.in_ok-is_ended.is_ended ≡ false = search rules in
    let is_open : ends_at_end (state_of c.read.new.self.cutter.place) ≡ true = search rules in
    let unquoted : in_quotes (state_of c.read.new.self.cutter.place) ≡ false = search rules in
    let same = ap (λ f. f.delimiter) r.format ∙ c.new-front.ensures.delimiter in
    let was = r.front (ap Ok e) in
    rw (c.in-Ok.ensures.fields, c.holds_mark-has_mark.ensures) (
      was.0,
      was.1,
      rw same at (IsFront-only c.read.new.self.mark was.0 c.read.new.self.cutter was.2 is_open unquoted),
    )

pub returns-then-in_quotes-clause-quote : goal.returns-then-in_quotes-clause-quote
returns-then-in_quotes-clause-quote g c line is =
    let r = c.in_ok-is_ended.ensures in
    let e : c.in_ok-is_ended.is_ended ≡ false = search rules in
    let opened : in_quotes (state_of c.read.new.self.cutter.place) ≡ true = search rules in
    let same = ap (λ f. f.delimiter) r.format ∙ c.new-front.ensures.delimiter in
    let was = r.front (ap Ok e) in
    let told = sym (same_line _ line is) ∙ c.saturating_add-line.ensures in
    (was.0, was.1, rw same at (IsFront-open c.read.new.self.mark was.0 c.read.new.self.cutter line was.2 opened told))

-- where a source ended before a byte ended a record, none was ended
none_ended : (before after : Option (List ℕ)) (m : Mark) (c : Cutter) (d : ℕ) → OfRead before after (λ bytes. IsFront m bytes c) → c.format.delimiter ≡ d →
    OfRead before after (EndsNoFirst d)
none_ended before after m c d was same =
    (was.0, was.1, subst (λ d. EndsNoFirst d was.0) same (IsFront-unended m was.0 was.0 [] c (sym (append-nil was.0)) (omega arith) was.2))

pub returns-then-not-is_open-clause-unended : goal.returns-then-not-is_open-clause-unended
returns-then-not-is_open-clause-unended g c =
    let r = c.in_ok-is_ended.ensures in
    let e : c.in_ok-is_ended.is_ended ≡ false = search rules in
    none_ended _ _ c.read.new.self.mark c.read.new.self.cutter _ (r.front (ap Ok e)) (ap (λ f. f.delimiter) r.format ∙ c.new-front.ensures.delimiter)

pub returns-in-Err-clause-unended : goal.returns-in-Err-clause-unended
returns-in-Err-clause-unended g c =
    let r = c.in_ok-is_ended.ensures in
    let e : c.in_ok-is_ended.is_ended ≡ false = search rules in
    none_ended _ _ c.read.new.self.mark c.read.new.self.cutter _ (r.front (ap Ok e)) (ap (λ f. f.delimiter) r.format ∙ c.new-front.ensures.delimiter)

pub returns-then-in_quotes-clause-unended : goal.returns-then-in_quotes-clause-unended
returns-then-in_quotes-clause-unended g c =
    let r = c.in_ok-is_ended.ensures in
    let e : c.in_ok-is_ended.is_ended ≡ false = search rules in
    none_ended _ _ c.read.new.self.mark c.read.new.self.cutter _ (r.front (ap Ok e)) (ap (λ f. f.delimiter) r.format ∙ c.new-front.ensures.delimiter)
