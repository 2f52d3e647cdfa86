-- How the first record of a source grows by one byte, and how it ends.
use Rattle.std.proofs.Common.{◌≡◌, ◌≢◌, ◌≤◌, length, Bool, ℕ, ◌==◌, ◌||◌, List, [], ◌∷◌, ◌++◌, ◌+◌, Result, Ok, Err, Some, None, if◌then◌else◌, true, false, refl, sym, ap, ◌∙◌, append_assoc, subst, arith}
use Rattle.std.proofs.lemmas.Bool.{eqb-true}
use Rattle.std.proofs.lemmas.List.{append-nil}
use Rattle.csv.specs.Machine.{ends_at_end, field_after, is_end, next_record, step}
use Rattle.csv.specs.Reading.{strip_bom}
use Rattle.csv.specs.Records.{fields_of}
use Rattle.csv.specs.declared.parser.Action.{Action}
use Rattle.csv.specs.declared.parser.Action.TheVariants as act
use Rattle.csv.specs.declared.parser.Config.{Config}
use Rattle.csv.specs.declared.parser.State.{State}
use Rattle.csv.specs.declared.parser.State.TheVariants as st
use Rattle.csv.proofs.ReadFacts.{feeds-push}
use Rattle.phone_csv.specs.Feeds.{counted, line_feeds}
use Rattle.phone_csv.specs.Firsts.{EndsNoFirst, IsBehind, IsFront, IsHead, IsOnly, begins_with_mark, byte_order_mark, first_in, holds_mark, mark_after}
use Rattle.phone_csv.specs.Formats.{Record, reading, state_of}
use Rattle.phone_csv.specs.Quotes.{IsOpenHeader}
use Rattle.phone_csv.specs.Records.{in_quotes}
use Rattle.phone_csv.specs.Records.AreCut.{none as uncut}
use Rattle.phone_csv.specs.declared.cutter.Cutter.{Cutter}
use Rattle.phone_csv.specs.declared.first.FirstError.{FirstError}
use Rattle.phone_csv.specs.declared.first.FirstError.TheVariants as error
use Rattle.phone_csv.specs.declared.front.Mark.{Mark}
use Rattle.phone_csv.specs.declared.front.Mark.TheVariants as mark
use Rattle.phone_csv.proofs.FeedLemmas.{ends_closed, line_feeds-append, line_feeds-next}
use Rattle.phone_csv.proofs.QuoteLemmas.{Quotes-next, closed_quotes, ends_in_quotes}
use Rattle.phone_csv.proofs.Progress.{Steps, at_start, feeds_rest, feeds_then}

-- the part behind a mark, after one more byte
abbrev pub part_after : Mark → List ℕ → ℕ → List ℕ
part_after mark.Start part x = part ++ x ∷ []
part_after mark.One part x = part ++ x ∷ []
part_after mark.Two part x = part ++ x ∷ []
part_after mark.Whole part x = []
part_after mark.Behind part x = part ++ x ∷ []
part_after mark.Past part x = part ++ x ∷ []

no_first : (x : ℕ) (more : List ℕ) → (x == 239) ≡ false → (strip_bom (x ∷ more) ≡ x ∷ more) × (begins_with_mark (x ∷ more) ≡ false)
unfolding strip_bom
no_first x [] e = (refl, refl)
no_first x (b ∷ []) e = (refl, refl)
no_first x (b ∷ c ∷ rest) e = (rw e refl, rw e refl)

no_second : (x : ℕ) (more : List ℕ) → (x == 187) ≡ false → (strip_bom (239 ∷ x ∷ more) ≡ 239 ∷ x ∷ more) × (begins_with_mark (239 ∷ x ∷ more) ≡ false)
unfolding strip_bom
no_second x [] e = (refl, refl)
no_second x (c ∷ rest) e = (rw e refl, rw e refl)

no_third : (x : ℕ) (more : List ℕ) → (x == 191) ≡ false →
    (strip_bom (239 ∷ 187 ∷ x ∷ more) ≡ 239 ∷ 187 ∷ x ∷ more) × (begins_with_mark (239 ∷ 187 ∷ x ∷ more) ≡ false)
unfolding strip_bom
no_third x more e = (rw e refl, rw e refl)

from_start : (b : Bool) (x : ℕ) → (x == 239) ≡ b →
    IsBehind (if b then mark.One else mark.Past) (x ∷ []) (part_after (if b then mark.One else mark.Past) [] x)
from_start true x e = (ap (λ y. y ∷ []) (eqb-true x 239 e), ap (λ y. y ∷ []) (eqb-true x 239 e))
from_start false x e = (refl, λ more. no_first x more e)

from_one : (b : Bool) (x : ℕ) → (x == 187) ≡ b →
    IsBehind (if b then mark.Two else mark.Past) (239 ∷ x ∷ []) (part_after (if b then mark.Two else mark.Past) (239 ∷ []) x)
from_one true x e = (ap (λ y. 239 ∷ y ∷ []) (eqb-true x 187 e), ap (λ y. 239 ∷ y ∷ []) (eqb-true x 187 e))
from_one false x e = (refl, λ more. no_second x more e)

from_two : (b : Bool) (x : ℕ) → (x == 191) ≡ b →
    IsBehind (if b then mark.Whole else mark.Past) (239 ∷ 187 ∷ x ∷ []) (part_after (if b then mark.Whole else mark.Past) (239 ∷ 187 ∷ []) x)
from_two true x e = (ap (λ y. 239 ∷ 187 ∷ y ∷ []) (eqb-true x 191 e), refl)
from_two false x e = (refl, λ more. no_third x more e)

past : (bytes part : List ℕ) (x : ℕ) → IsBehind mark.Past bytes part → IsBehind mark.Past (bytes ++ x ∷ []) (part ++ x ∷ [])
past bytes part x h = (
  ap (λ t. t ++ x ∷ []) h.0,
  λ more.
      let e = append_assoc bytes (x ∷ []) more in
      (ap strip_bom e ∙ (h.1 (x ∷ more)).0 ∙ sym e, ap begins_with_mark e ∙ (h.1 (x ∷ more)).1),
)

-- what stands behind the mark, after one more byte
behind_next : (m : Mark) (bytes part : List ℕ) (x : ℕ) → IsBehind m bytes part →
    IsBehind (mark_after m x) (bytes ++ x ∷ []) (part_after (mark_after m x) part x)
behind_next mark.Start bytes part x h = rw (h.0, h.1) (from_start (x == 239) x refl)
behind_next mark.One bytes part x h = rw (h.0, h.1) (from_one (x == 187) x refl)
behind_next mark.Two bytes part x h = rw (h.0, h.1) (from_two (x == 191) x refl)
behind_next mark.Whole bytes part x h = ap (λ t. t ++ x ∷ []) h.0 ∙ ap (λ t. byte_order_mark ++ (t ++ x ∷ [])) (sym h.1)
behind_next mark.Behind bytes part x h = ap (λ t. t ++ x ∷ []) h ∙ append_assoc byte_order_mark part (x ∷ [])
behind_next mark.Past bytes part x h = past bytes part x h

-- a mark that isn't whole is no part of a record, and other bytes are
part_kept : (m : Mark) (part : List ℕ) (x : ℕ) → m ≢ mark.Whole → part_after m part x ≡ part ++ x ∷ []
part_kept mark.Start part x n = refl
part_kept mark.One part x n = refl
part_kept mark.Two part x n = refl
part_kept mark.Whole part x n = absurd (n refl)
part_kept mark.Behind part x n = refl
part_kept mark.Past part x n = refl

-- at the end of the source
pub behind_all : (m : Mark) (bytes part : List ℕ) → IsBehind m bytes part → strip_bom bytes ≡ part
unfolding strip_bom
behind_all mark.Start bytes part h = rw (h.0, h.1) refl
behind_all mark.One bytes part h = rw (h.0, h.1) refl
behind_all mark.Two bytes part h = rw (h.0, h.1) refl
behind_all mark.Whole bytes part h = rw (h.0, h.1) refl
behind_all mark.Behind bytes part h = rw h refl
behind_all mark.Past bytes part h = ap strip_bom (sym (append-nil bytes)) ∙ (h.1 []).0 ∙ append-nil bytes ∙ h.0

pub marked_all : (m : Mark) (bytes part : List ℕ) → IsBehind m bytes part → begins_with_mark bytes ≡ holds_mark m
marked_all mark.Start bytes part h = rw h.0 refl
marked_all mark.One bytes part h = rw h.0 refl
marked_all mark.Two bytes part h = rw h.0 refl
marked_all mark.Whole bytes part h = rw h.0 refl
marked_all mark.Behind bytes part h = rw h refl
marked_all mark.Past bytes part h = ap begins_with_mark (sym (append-nil bytes)) ∙ (h.1 []).1

-- a mark has no line feed
pub behind_feeds : (m : Mark) (bytes part : List ℕ) → IsBehind m bytes part → line_feeds part ≡ line_feeds bytes
behind_feeds mark.Start bytes part h = rw (h.0, h.1) refl
behind_feeds mark.One bytes part h = rw (h.0, h.1) refl
behind_feeds mark.Two bytes part h = rw (h.0, h.1) refl
behind_feeds mark.Whole bytes part h = rw (h.0, h.1) refl
behind_feeds mark.Behind bytes part h =
    let sum = ap line_feeds h ∙ line_feeds-append byte_order_mark part in
    let none : line_feeds byte_order_mark ≡ 0 = refl in
    omega (arith, sum, none)
behind_feeds mark.Past bytes part h = ap line_feeds (sym h.0)

-- it is told whether there is a mark, whatever follows
abbrev is_settled : Mark → Bool
is_settled mark.Behind = true
is_settled mark.Past = true
is_settled other = false

settled_behind : (m : Mark) (bytes part more : List ℕ) → is_settled m ≡ true → IsBehind m bytes part → strip_bom (bytes ++ more) ≡ part ++ more
unfolding strip_bom
settled_behind mark.Start bytes part more s h = cc s
settled_behind mark.One bytes part more s h = cc s
settled_behind mark.Two bytes part more s h = cc s
settled_behind mark.Whole bytes part more s h = cc s
settled_behind mark.Behind bytes part more s h = rw h refl
settled_behind mark.Past bytes part more s h = (h.1 more).0 ∙ ap (λ t. t ++ more) h.0

settled_marked : (m : Mark) (bytes part more : List ℕ) → is_settled m ≡ true → IsBehind m bytes part → begins_with_mark (bytes ++ more) ≡ holds_mark m
settled_marked mark.Start bytes part more s h = cc s
settled_marked mark.One bytes part more s h = cc s
settled_marked mark.Two bytes part more s h = cc s
settled_marked mark.Whole bytes part more s h = cc s
settled_marked mark.Behind bytes part more s h = rw h refl
settled_marked mark.Past bytes part more s h = (h.1 more).1

-- whether a step ends the record
abbrev ended : State × Action → Bool
ended p = is_end p.1

-- a byte that ends a record is a carriage return or a line feed
in_field_ends : (a b : Bool) (s : State) → ended (if a then (st.StartField, act.EndField) else if b then (s, act.EndRecord) else (st.InField, act.Copy)) ≡ true → b ≡ true
in_field_ends true b s e = cc e
in_field_ends false true s e = refl
in_field_ends false false s e = cc e

start_field_ends : (t : State) (q a b : Bool) (s : State) → ended (if q then (t, act.Skip) else if a then (st.StartField, act.EndField) else if b then (s, act.EndRecord) else (st.InField, act.Copy)) ≡ true → b ≡ true
start_field_ends t true a b s e = cc e
start_field_ends t false a b s e = in_field_ends a b s e

after_quote_ends : (q a b : Bool) (s : State) → ended (if q then (st.InQuoted, act.Copy) else if a then (st.StartField, act.EndField) else if b then (s, act.EndRecord) else (st.InField, act.Copy)) ≡ true → b ≡ true
after_quote_ends true a b s e = cc e
after_quote_ends false a b s e = in_field_ends a b s e

start_record_ends : (q a b : Bool) (s : State) → ended (if b then (st.StartRecord, act.Skip) else if q then (st.InQuoted, act.Skip) else if a then (st.StartField, act.EndField) else if b then (s, act.EndRecord) else (st.InField, act.Copy)) ≡ true → b ≡ true
start_record_ends q a true s e = refl
start_record_ends q a false s e = start_field_ends st.InQuoted q a false s e

after_return_ends : (l q a b : Bool) (s : State) → ended (if l then (st.StartRecord, act.Skip) else if b then (st.StartRecord, act.Skip) else if q then (st.InQuoted, act.Skip) else if a then (st.StartField, act.EndField) else if b then (s, act.EndRecord) else (st.InField, act.Copy)) ≡ true → b ≡ true
after_return_ends true q a b s e = cc e
after_return_ends false q a b s e = start_record_ends q a b s e

quoted_ends : (q b : Bool) → ended (if q then (st.AfterQuote, act.Skip) else (st.InQuoted, act.Copy)) ≡ true → b ≡ true
quoted_ends true b e = cc e
quoted_ends false b e = cc e

comment_ends : (q b : Bool) → ended (if q then (st.StartRecord, act.Skip) else (st.InComment, act.Skip)) ≡ true → b ≡ true
comment_ends true b e = cc e
comment_ends false b e = cc e

ends : (d : ℕ) (s : State) (x : ℕ) → is_end (step (reading d) s x).1 ≡ true → ((x == 13) || (x == 10)) ≡ true
ends d st.StartRecord x e = start_record_ends (x == 34) (x == d) ((x == 13) || (x == 10)) _ e
ends d st.StartField x e = start_field_ends _ (x == 34) (x == d) ((x == 13) || (x == 10)) _ e
ends d st.InField x e = in_field_ends (x == d) ((x == 13) || (x == 10)) _ e
ends d st.InQuoted x e = quoted_ends (x == 34) _ e
ends d st.InEscape x e = cc e
ends d st.AfterQuote x e = after_quote_ends (x == 34) (x == d) ((x == 13) || (x == 10)) _ e
ends d st.InComment x e = comment_ends (x == 10) _ e
ends d st.AfterCr x e = after_return_ends (x == 10) (x == 34) (x == d) ((x == 13) || (x == 10)) _ e

-- a byte that is none of a mark
not_of_mark : (m : Mark) (x : ℕ) → (x == 239) ≡ false → (x == 187) ≡ false → (x == 191) ≡ false → is_settled (mark_after m x) ≡ true
not_of_mark mark.Start x first second third = rw first refl
not_of_mark mark.One x first second third = rw second refl
not_of_mark mark.Two x first second third = rw third refl
not_of_mark mark.Whole x first second third = refl
not_of_mark mark.Behind x first second third = refl
not_of_mark mark.Past x first second third = refl

settled_by : (m : Mark) (x : ℕ) (r l : Bool) → (x == 13) ≡ r → (x == 10) ≡ l → (r || l) ≡ true → is_settled (mark_after m x) ≡ true
settled_by m x true l e f h = rw (eqb-true x 13 e) (not_of_mark m 13 refl refl refl)
settled_by m x false true e f h = rw (eqb-true x 10 f) (not_of_mark m 10 refl refl refl)
settled_by m x false false e f h = cc h

pub ends_settled : (d : ℕ) (s : State) (m : Mark) (x : ℕ) → is_end (step (reading d) s x).1 ≡ true → is_settled (mark_after m x) ≡ true
ends_settled d s m x e = settled_by m x (x == 13) (x == 10) refl refl (ends d s x e)

settled_not_whole : (m : Mark) → is_settled m ≡ true → m ≢ mark.Whole
settled_not_whole m s e = cc (sym s ∙ ap is_settled e)

pub ends_not_whole : (d : ℕ) (s : State) (m : Mark) (x : ℕ) → is_end (step (reading d) s x).1 ≡ true → mark_after m x ≢ mark.Whole
ends_not_whole d s m x e = settled_not_whole (mark_after m x) (ends_settled d s m x e)

-- nothing was read yet
pub IsFront-nothing : (c : Cutter) → state_of c.place ≡ st.StartRecord → fields_of c.fields ≡ [] → c.field.items ≡ [] → c.feeds ≡ 0 → IsFront mark.Start [] c
IsFront-nothing c place fields field feeds = record {
  part = [];
  behind = (refl, refl);
  fed = at_start c.format.delimiter st.StartRecord (state_of c.place) (fields_of c.fields) c.field.items place fields field;
  feeds = feeds;
  quotes = closed_quotes c st.StartRecord [] (ap ends_at_end place);
}

-- the line feeds, one more byte with them
pub IsFront-feeds : (m : Mark) (bytes : List ℕ) (c c' : Cutter) (x : ℕ) → IsFront m bytes c → Steps c c' x → c'.feeds ≡ counted (line_feeds (bytes ++ x ∷ []))
IsFront-feeds m bytes c c' x f on = on.feeds ∙ line_feeds-next bytes x c.feeds (x == 10) refl f.feeds

-- a byte that ends no record, nor the mark
pub IsFront-grown : (m : Mark) (bytes : List ℕ) (c c' : Cutter) (x : ℕ) → IsFront m bytes c → Steps c c' x →
    is_end (step (reading c.format.delimiter) (state_of c.place) x).1 ≡ false → mark_after m x ≢ mark.Whole → IsFront (mark_after m x) (bytes ++ x ∷ []) c'
IsFront-grown m bytes c c' x f on e n =
    let fed = feeds-push (reading c.format.delimiter) st.StartRecord (state_of c.place) [] (fields_of c.fields) [] c.field.items f.part x f.fed in
    record {
      part = f.part ++ x ∷ [];
      behind = subst (λ t. IsBehind (mark_after m x) (bytes ++ x ∷ []) t) (part_kept (mark_after m x) f.part x n) (behind_next m bytes f.part x f.behind);
      fed = rw (on.format, on.place, on.fields, on.field) (rw e at fed);
      feeds = IsFront-feeds m bytes c c' x f on;
      quotes = Quotes-next c c' st.StartRecord f.part x f.quotes (λ begins. record {
        records = [];
        state = st.StartRecord;
        rest = f.part;
        cut = uncut st.StartRecord f.part;
        at = state_of c.place;
        fields = fields_of c.fields;
        field = c.field.items;
        fed = f.fed;
        begins = begins;
      }) (f.feeds ∙ ap counted (sym (behind_feeds m bytes f.part f.behind))) on.format on.place on.feeds_to_quote;
    }

-- the byte that ends the mark
pub IsFront-marked : (m : Mark) (bytes : List ℕ) (c c' : Cutter) (x : ℕ) → IsFront m bytes c → mark_after m x ≡ mark.Whole →
    state_of c'.place ≡ st.StartRecord → fields_of c'.fields ≡ [] → c'.field.items ≡ [] → c'.feeds ≡ counted (line_feeds (bytes ++ x ∷ [])) →
    IsFront (mark_after m x) (bytes ++ x ∷ []) c'
IsFront-marked m bytes c c' x f e place fields field feeds = record {
  part = [];
  behind = subst (λ k. IsBehind (mark_after m x) (bytes ++ x ∷ []) (part_after k f.part x)) e (behind_next m bytes f.part x f.behind);
  fed = at_start c'.format.delimiter st.StartRecord (state_of c'.place) (fields_of c'.fields) c'.field.items place fields field;
  feeds = feeds;
  quotes = closed_quotes c' st.StartRecord [] (ap ends_at_end place);
}

-- the byte that ends the record
pub IsFront-ended : (m : Mark) (bytes : List ℕ) (c c' : Cutter) (x : ℕ) → IsFront m bytes c → Steps c c' x →
    is_end (step (reading c.format.delimiter) (state_of c.place) x).1 ≡ true →
    IsHead c.format.delimiter (bytes ++ x ∷ []) (fields_of c'.fields) (state_of c'.place) c'.feeds (holds_mark (mark_after m x))
IsFront-ended m bytes c c' x f on e =
    let settled = ends_settled c.format.delimiter (state_of c.place) m x e in
    let kept = part_kept (mark_after m x) f.part x (settled_not_whole (mark_after m x) settled) in
    let behind : IsBehind (mark_after m x) (bytes ++ x ∷ []) (f.part ++ x ∷ []) = subst (IsBehind (mark_after m x) (bytes ++ x ∷ [])) kept (behind_next m bytes f.part x f.behind) in
    let fed = feeds-push (reading c.format.delimiter) st.StartRecord (state_of c.place) [] (fields_of c.fields) [] c.field.items f.part x f.fed in
    record {
      first = λ more.
          ap (λ t. next_record (reading c.format.delimiter) st.StartRecord [] [] t) (settled_behind (mark_after m x) (bytes ++ x ∷ []) (f.part ++ x ∷ []) more settled behind)
          ∙ feeds_then (reading c.format.delimiter) st.StartRecord (state_of c'.place) [] (fields_of c'.fields) [] (field_after (step (reading c.format.delimiter) (state_of c.place) x).1 x c.field.items) (f.part ++ x ∷ []) more
          true (rw (on.place, on.fields) (rw e at fed));
      closed = ap ends_at_end on.place ∙ ends_closed c.format.delimiter c.place x e;
      line_feeds = IsFront-feeds m bytes c c' x f on;
      marked = λ more. settled_marked (mark_after m x) (bytes ++ x ∷ []) (f.part ++ x ∷ []) more settled behind;
    }

at_end : (cfg : Config) (s : State) (f : Record) (p : List ℕ) (b : Bool) → ends_at_end s ≡ b →
    next_record cfg s f p [] ≡ if b then Some (f ++ p ∷ [], st.StartRecord, []) else None
unfolding next_record
at_end cfg s f p true e = rw e refl
at_end cfg s f p false e = rw e refl

-- the end of the source
pub IsFront-last : (m : Mark) (bytes : List ℕ) (c : Cutter) (b : Bool) → IsFront m bytes c → ends_at_end (state_of c.place) ≡ b →
    first_in c.format.delimiter bytes ≡ if b then Some (fields_of c.fields ++ c.field.items ∷ [], st.StartRecord, []) else None
IsFront-last m bytes c b f e =
    ap (λ t. next_record (reading c.format.delimiter) st.StartRecord [] [] t) (behind_all m bytes f.part f.behind)
    ∙ feeds_rest (reading c.format.delimiter) st.StartRecord (state_of c.place) [] (fields_of c.fields) [] c.field.items f.part f.fed
    ∙ at_end (reading c.format.delimiter) (state_of c.place) (fields_of c.fields) c.field.items b e

-- a beginning of a first record, and one more byte at most
pub IsFront-unended : (m : Mark) (bytes front last : List ℕ) (c : Cutter) → bytes ≡ front ++ last → length last ≤ 1 → IsFront m front c → EndsNoFirst c.format.delimiter bytes
IsFront-unended m bytes front last c e short f = record {
  front = front;
  last = last;
  whole = e;
  short = short;
  mark = m;
  part = f.part;
  behind = f.behind;
  unended = (state_of c.place, fields_of c.fields, c.field.items, f.fed);
}

-- the end of the source in a record, which isn't between quotes
pub IsFront-only : (m : Mark) (bytes : List ℕ) (c : Cutter) → IsFront m bytes c → ends_at_end (state_of c.place) ≡ true → in_quotes (state_of c.place) ≡ false →
    IsOnly c.format.delimiter bytes (fields_of c.fields ++ c.field.items ∷ []) (holds_mark m)
IsFront-only m bytes c f e unquoted = record {
  first = IsFront-last m bytes c true f e;
  closed = (
    state_of c.place,
    fields_of c.fields,
    c.field.items,
    rw (behind_all m bytes f.part f.behind) f.fed,
    unquoted,
  );
  marked = marked_all m bytes f.part f.behind;
}

from_none : (n : ℕ) → counted (n + 1) ≡ counted (0 + n + 1)
from_none n = omega arith

-- and between quotes
pub IsFront-open : (m : Mark) (bytes : List ℕ) (c : Cutter) (line : ℕ) → IsFront m bytes c → in_quotes (state_of c.place) ≡ true →
    line ≡ counted (c.feeds_to_quote + 1) → IsOpenHeader c.format.delimiter line bytes
IsFront-open m bytes c line f e is = rw (behind_all m bytes f.part f.behind) (ends_in_quotes c st.StartRecord f.part 0 line f.quotes e (is ∙ from_none c.feeds_to_quote))

abbrev line_of : {T : Type 0} → Result T FirstError → ℕ
line_of (Ok x) = 0
line_of (Err error.Absent) = 0
line_of (Err error.Input) = 0
line_of (Err (error.Quote n)) = n
line_of (Err error.Memory) = 0

-- two equal refusals of a quote tell the same line
pub same_line : {T : Type 0} (m n : ℕ) → ◌≡◌ {A = Result T FirstError} (Err (error.Quote m)) (Err (error.Quote n)) → m ≡ n
same_line m n e = ap line_of e
