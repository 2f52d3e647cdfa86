-- How far a run is after one more byte, or after the sink has taken more.
use Rattle.std.proofs.Common.{◌≡◌, ◌⊎◌, Bool, Result, Ok, Err, OnOk, if◌then◌else◌, inr, add-one, ℕ, ◌==◌, ◌+◌, ◌<◌, take, drop, length, get_or, List, [], ◌∷◌, ◌++◌, Option, Some, None, inl, true, false, refl, sym, ap, ◌∙◌, append_assoc, subst}
use Rattle.std.proofs.lemmas.List.{append-nil, take-append-drop}
use Rattle.std.proofs.Math.Seq.{take-suc}
use Rattle.phone_device.specs.Passing.{Holds, IsAtEnd, Takes, TakesFront}
use Rattle.csv.specs.Machine.{Feeds, ends_at_end, field_after, fields_after, is_end, next_record, step}
use Rattle.csv.specs.Reading.{records_next}
use Rattle.csv.specs.Records.{fields_of}
use Rattle.csv.specs.declared.parser.Action.{Action}
use Rattle.csv.specs.declared.parser.Action.TheVariants as act
use Rattle.csv.specs.declared.parser.Config.{Config}
use Rattle.csv.specs.declared.parser.State.{State}
use Rattle.std.specs.Bool.{MatchBool}
use Rattle.csv.proofs.ReadFacts.{feeds-push}
use Rattle.phone_csv.specs.Feeds.{counted, feeds_before}
use Rattle.phone_csv.specs.Formats.{Record, reading, state_of}
use Rattle.phone_csv.specs.Quotes.{opens_quote}
use Rattle.phone_csv.specs.Records.{IsEnded, in_quotes}
use Rattle.phone_csv.specs.RecordReports.{IsBeginning, IsReport, IsReportBefore, IsReportBeforeQuote, IsReportOnEnded, IsReportOnFirst, last_record, Writes}
use Rattle.phone_csv.specs.Records.AreCut.{none as uncut}
use Rattle.phone_csv.specs.Runs.{Adds, BreaksOff, IsSoFar, Stands, TakesA}
use Rattle.phone_csv.specs.declared.cutter.Cutter.{Cutter}
use Rattle.phone_csv.proofs.CutLemmas.{AreCut-ended, AreCut-grown}
use Rattle.phone_csv.proofs.FeedLemmas.{Counts-ended, Counts-grown, Counts-next, Counts-nothing, counted-more, counted-more-first, ends_closed, from_none}
use Rattle.phone_csv.proofs.QuoteLemmas.{Quotes-next, closed_in_quotes, closed_quotes, ends_in_quotes}

-- what follows at an `Ok` from two facts that hold at it
pub both_ok : {T E P Q S : Type 0} (r : Result T E) → OnOk r P → OnOk r Q → (P → Q → S) → OnOk r S
both_ok (Ok x) p q f = f p q
both_ok (Err x) p q f = tt

-- the next record of a text that begins with these bytes: they end it, or it goes on behind them
pub feeds_then : (cfg : Config) (s s2 : State) (f f2 : Record) (p p2 x more : List ℕ) (done : Bool) → Feeds cfg s f p x s2 f2 p2 done →
    next_record cfg s f p (x ++ more) ≡ if done then Some (f2, s2, more) else next_record cfg s2 f2 p2 more
unfolding Feeds next_record
feeds_then cfg s s2 f f2 p p2 [] more done h = rw (h.0, h.1, h.2, h.3) refl
feeds_then cfg s s2 f f2 p p2 (c ∷ x) more done h = by (is_end (step cfg s c).1) refl h (feeds_then cfg (step cfg s c).0 s2 _ f2 _ p2 x more done)
  where
    by : (b : Bool) → is_end (step cfg s c).1 ≡ b
        → MatchBool (is_end (step cfg s c).1)
        ((x ≡ []) × (s2 ≡ (step cfg s c).0) × (f2 ≡ fields_after (step cfg s c).1 f p) × (p2 ≡ field_after (step cfg s c).1 c p) × (done ≡ true))
        (Feeds cfg (step cfg s c).0 (fields_after (step cfg s c).1 f p) (field_after (step cfg s c).1 c p) x s2 f2 p2 done)
        → (Feeds cfg (step cfg s c).0 (fields_after (step cfg s c).1 f p) (field_after (step cfg s c).1 c p) x s2 f2 p2 done →
        next_record cfg (step cfg s c).0 (fields_after (step cfg s c).1 f p) (field_after (step cfg s c).1 c p) (x ++ more)
        ≡ if done then Some (f2, s2, more) else next_record cfg s2 f2 p2 more)
        → next_record cfg s f p ((c ∷ x) ++ more) ≡ if done then Some (f2, s2, more) else next_record cfg s2 f2 p2 more
    by true e q rest = let d = rw e at q in rw (e, d.0, d.1, d.2, d.4) refl
    by false e q rest = rw e (rest (rw e at q))

-- bytes that end no record, and then the end of the text
pub feeds_rest : (cfg : Config) (s s2 : State) (f f2 : Record) (p p2 x : List ℕ) → Feeds cfg s f p x s2 f2 p2 false → next_record cfg s f p x ≡ next_record cfg s2 f2 p2 []
feeds_rest cfg s s2 f f2 p p2 x h = ap (next_record cfg s f p) (sym (append-nil x)) ∙ feeds_then cfg s s2 f f2 p p2 x [] false h

-- what the end of the text leaves of a record that isn't ended yet
at_end : (cfg : Config) (s : State) (f : Record) (p : List ℕ) (b : Bool) → ends_at_end s ≡ b →
    records_next (λ _ _. []) (next_record cfg s f p []) ≡ if b then (f ++ p ∷ []) ∷ [] else []
unfolding next_record
at_end cfg s f p true e = rw e refl
at_end cfg s f p false e = rw e refl

-- the last record, where one stands behind the last line end, or none does
pub IsSoFar-last : (writes : Writes) (start : State) (bytes : List ℕ) (c : Cutter) (answers : List ℕ) (s : IsSoFar writes start bytes c answers) (b : Bool) →
    ends_at_end (state_of c.place) ≡ b → last_record c.format.delimiter s.state s.rest ≡ if b then (fields_of c.fields ++ c.field.items ∷ []) ∷ [] else []
IsSoFar-last writes start bytes c answers s b e =
    ap (λ r. records_next (λ _ _. []) r) (feeds_rest (reading c.format.delimiter) s.state (state_of c.place) [] (fields_of c.fields) [] c.field.items s.rest s.fed)
    ∙ at_end (reading c.format.delimiter) (state_of c.place) (fields_of c.fields) c.field.items b e

-- what a byte does to a record that isn't ended yet
pub record Steps (before after : Cutter) (x : ℕ) : Type 0 where
  pub place : state_of after.place ≡ (step (reading before.format.delimiter) (state_of before.place) x).0
  pub fields : fields_of after.fields ≡ fields_after (step (reading before.format.delimiter) (state_of before.place) x).1 (fields_of before.fields) before.field.items
  pub field : after.field.items ≡ field_after (step (reading before.format.delimiter) (state_of before.place) x).1 x before.field.items
  pub format : after.format ≡ before.format
  pub feeds : after.feeds ≡ (if x == 10 then counted (before.feeds + 1) else before.feeds)
  pub feeds_before : after.feeds_before ≡ (if ends_at_end (state_of before.place) then before.feeds_before else before.feeds)
  pub feeds_to_quote : after.feeds_to_quote ≡ (if opens_quote (state_of before.place) x then before.feeds else before.feeds_to_quote)

-- a byte that ends no record
pub IsSoFar-grown : (writes : Writes) (start : State) (bytes : List ℕ) (c c' : Cutter) (answers : List ℕ) (x : ℕ) → IsSoFar writes start bytes c answers →
    Steps c c' x → is_end (step (reading c.format.delimiter) (state_of c.place) x).1 ≡ false → IsSoFar writes start (bytes ++ x ∷ []) c' answers
IsSoFar-grown writes start bytes c c' answers x s on e =
    let fed = feeds-push (reading c.format.delimiter) s.state (state_of c.place) [] (fields_of c.fields) [] c.field.items s.rest x s.fed in
    record {
      records = s.records;
      state = s.state;
      rest = s.rest ++ x ∷ [];
      cut = rw on.format (AreCut-grown c.format.delimiter start s.state bytes s.rest (x ∷ []) s.records s.cut);
      fed = rw (on.format, on.place, on.fields, on.field) (rw e at fed);
      counts = Counts-grown c c' s.state bytes s.rest x s.counts on.place on.feeds on.feeds_before e;
      quotes = λ closed. Quotes-next c c' start bytes x (s.quotes closed) (λ begins. record {
        records = s.records;
        state = s.state;
        rest = s.rest;
        cut = s.cut;
        at = state_of c.place;
        fields = fields_of c.fields;
        field = c.field.items;
        fed = s.fed;
        begins = begins;
      }) s.counts.feeds on.format on.place on.feeds_to_quote;
      answered = s.answered;
    }

-- a byte that ends the record
pub IsSoFar-is_ended : (writes : Writes) (start : State) (bytes : List ℕ) (c c' : Cutter) (answers : List ℕ) (x : ℕ) (s : IsSoFar writes start bytes c answers) →
    Steps c c' x → is_end (step (reading c.format.delimiter) (state_of c.place) x).1 ≡ true →
    IsEnded c.format.delimiter s.state (s.rest ++ x ∷ []) (fields_of c'.fields) (state_of c'.place)
IsSoFar-is_ended writes start bytes c c' answers x s on e =
    let fed = feeds-push (reading c.format.delimiter) s.state (state_of c.place) [] (fields_of c.fields) [] c.field.items s.rest x s.fed in
    (field_after (step (reading c.format.delimiter) (state_of c.place) x).1 x c.field.items, rw (on.place, on.fields) (rw e at fed))

-- behind a record no byte of a field stands
field_ended : (a : Action) (x : ℕ) (field : List ℕ) → is_end a ≡ true → field_after a x field ≡ []
field_ended act.Skip x field e = cc e
field_ended act.Copy x field e = cc e
field_ended act.EndField x field e = cc e
field_ended act.EndRecord x field e = refl

-- in front of a record
pub at_start : (d : ℕ) (s s' : State) (fields : Record) (field : List ℕ) → s' ≡ s → fields ≡ [] → field ≡ [] → Feeds (reading d) s [] [] [] s' fields field false
unfolding Feeds
at_start d s s' fields field e f g = (e, f, g, refl)

-- and the answer to it
pub IsSoFar-ended : (writes writes' : Writes) (start : State) (bytes : List ℕ) (c m c' : Cutter) (written held added : List ℕ) (x : ℕ) →
    IsSoFar writes start bytes c (written ++ held) → Steps c m x → is_end (step (reading c.format.delimiter) (state_of c.place) x).1 ≡ true →
    Adds writes writes' (fields_of m.fields) added →
    c'.format ≡ c.format → c'.place ≡ m.place → fields_of c'.fields ≡ [] → c'.field.items ≡ m.field.items → c'.feeds ≡ m.feeds →
    IsSoFar writes' start (bytes ++ x ∷ []) c' (written ++ (held ++ added))
IsSoFar-ended writes writes' start bytes c m c' written held added x s on e is same place bare empty feeds =
    record {
      records = s.records ++ fields_of m.fields ∷ [];
      state = state_of m.place;
      rest = [];
      cut = rw same (AreCut-ended c.format.delimiter start s.state (state_of m.place) (bytes ++ x ∷ []) (s.rest ++ x ∷ []) s.records (fields_of m.fields)
          (AreCut-grown c.format.delimiter start s.state bytes s.rest (x ∷ []) s.records s.cut) (IsSoFar-is_ended writes start bytes c m (written ++ held) x s on e));
      fed = at_start c'.format.delimiter (state_of m.place) (state_of c'.place) (fields_of c'.fields) c'.field.items (ap state_of place) bare
          (empty ∙ on.field ∙ field_ended _ x c.field.items e);
      counts = Counts-next c m s.state bytes s.rest x s.counts on.place on.feeds on.feeds_before c' e place feeds;
      quotes = λ closed. closed_quotes c' start (bytes ++ x ∷ []) (ap (λ p. ends_at_end (state_of p)) place ∙ ap ends_at_end on.place ∙ ends_closed c.format.delimiter c.place x e);
      answered = subst (λ t. writes' (s.records ++ fields_of m.fields ∷ []) t) (append_assoc written held added) (is s.records (written ++ held) s.answered);
    }

-- and that it is refused
pub IsSoFar-refused : (writes : Writes) (refuses : Record → Type 0) (start : State) (bytes : List ℕ) (c m : Cutter) (answers : List ℕ) (x : ℕ) →
    IsSoFar writes start bytes c answers → Steps c m x → is_end (step (reading c.format.delimiter) (state_of c.place) x).1 ≡ true →
    refuses (fields_of m.fields) → (feeds : ℕ) → feeds ≡ m.feeds_before → (to_come : Option (List ℕ)) (more : List ℕ) →
    IsReportBefore writes refuses c.format.delimiter start 0 feeds to_come (bytes ++ x ∷ more) answers
IsSoFar-refused writes refuses start bytes c m answers x s on e is feeds counts to_come more = (
  s.records,
  s.state,
  s.rest ++ x ∷ more,
  fields_of m.fields,
  AreCut-grown c.format.delimiter start s.state bytes s.rest (x ∷ more) s.records s.cut,
  inl (s.rest ++ x ∷ [], more, state_of m.place, sym (append_assoc s.rest (x ∷ []) more), IsSoFar-is_ended writes start bytes c m answers x s on e),
  counts ∙ Counts-ended c m s.state bytes s.rest x s.counts on.place on.feeds on.feeds_before e (x ∷ more),
  is,
  s.answered,
)

-- a text without bytes
pub no_length : (x : List ℕ) → length x ≡ 0 → x ≡ []
no_length [] e = refl
no_length (c ∷ x) e = cc e

-- the sink has taken nothing yet
pub takes_nothing : (a : Option (List ℕ)) → Takes a [] a
takes_nothing None = refl
takes_nothing (Some all) = ap (λ t. Some t) (sym (append-nil all))

-- what is taken one after the other is taken together
pub takes_then : (a b c : Option (List ℕ)) (x y : List ℕ) → Takes a x b → Takes b y c → Takes a (x ++ y) c
takes_then None b c x y p q = subst (λ b. Takes b y c) p q
takes_then (Some all) b c x y p q = let e : Takes (Some (all ++ x)) y c = subst (λ b. Takes b y c) p q in e ∙ ap (λ t. Some t) (append_assoc all x y)

-- how one byte changes what is so far
abbrev pub Advances : (before after : Writes) → State → ℕ → (c c' : Cutter) (held held' : List ℕ) → Type 0
Advances before after start x c c' held held' = (bytes : List ℕ) (written : List ℕ) → IsSoFar before start bytes c (written ++ held) →
    IsSoFar after start (bytes ++ x ∷ []) c' (written ++ held')

-- one more byte was taken
pub Stands-advanced : (writes writes' : Writes) (start : State) (bytes : List ℕ) (c c' : Cutter) (held held' : List ℕ) (x : ℕ) (before after : Option (List ℕ)) →
    Stands writes start bytes c held before after → Advances writes writes' start x c c' held held' → Stands writes' start (bytes ++ x ∷ []) c' held' before after
Stands-advanced writes writes' start bytes c c' held held' x before after s on = record { written = s.written; taken = s.taken; so_far = on bytes s.written s.so_far }

-- the sink took some of the answers that were held
pub Stands-handed : (writes : Writes) (start : State) (bytes : List ℕ) (c : Cutter) (held more held' : List ℕ) (before middle after : Option (List ℕ)) →
    Stands writes start bytes c held before middle → held ≡ more ++ held' → Takes middle more after → Stands writes start bytes c held' before after
Stands-handed writes start bytes c held more held' before middle after s e t = record {
  written = s.written ++ more;
  taken = takes_then before middle after s.written more s.taken t;
  so_far = subst (λ r. IsSoFar writes start bytes c r) (ap (λ r. s.written ++ r) e ∙ sym (append_assoc s.written more held')) s.so_far;
}

-- where a run stops, this holds of what it answered
pub Stands-holds : (writes : Writes) (start : State) (bytes : List ℕ) (c : Cutter) (held : List ℕ) (before after : Option (List ℕ)) (is_text : List ℕ → Type 0) →
    Stands writes start bytes c held before after → ((written : List ℕ) → IsSoFar writes start bytes c (written ++ held) → is_text (written ++ held)) →
    Holds is_text held before after
Stands-holds writes start bytes c held before after is_text s on = record { written = s.written; taken = s.taken; text = on s.written s.so_far }

-- in front of the rest of the bytes it has answered some first records
pub Stands-first : (writes : Writes) (start : State) (bytes rest : List ℕ) (c : Cutter) (held : List ℕ) (before after : Option (List ℕ)) →
    Stands writes start bytes c held before after → Holds (IsReportOnFirst writes c.format.delimiter start (bytes ++ rest)) held before after
Stands-first writes start bytes rest c held before after s =
    Stands-holds writes start bytes c held before after (IsReportOnFirst writes c.format.delimiter start (bytes ++ rest)) s
    (λ written f. (f.records, f.state, f.rest ++ rest, AreCut-grown c.format.delimiter start f.state bytes f.rest rest f.records f.cut, f.answered))

front_then : (before middle after : Option (List ℕ)) (written held : List ℕ) → Takes before written middle → TakesFront middle held after →
    TakesFront before (written ++ held) after
front_then before middle after written held t f = record {
  front = written ++ f.front;
  rest = f.rest;
  whole = ap (λ r. written ++ r) f.whole ∙ sym (append_assoc written f.front f.rest);
  taken = takes_then before middle after written f.front t f.taken;
}

-- where a sink fails in the middle of what is held
pub Holds-breaks : (writes : Writes) (d : ℕ) (start : State) (bytes held : List ℕ) (before middle after : Option (List ℕ)) →
    Holds (IsReportOnFirst writes d start bytes) held before middle → TakesFront middle held after → BreaksOff writes d start bytes before after
Holds-breaks writes d start bytes held before middle after h f = (h.written ++ held, h.text, front_then before middle after h.written held h.taken f)

-- the bytes of a block up to a place, and those from there on
pub at_place : (bytes block : List ℕ) (i : ℕ) → (bytes ++ take i block) ++ drop i block ≡ bytes ++ block
at_place bytes block i = append_assoc bytes (take i block) (drop i block) ∙ ap (λ t. bytes ++ t) (take-append-drop i block)

-- and up to the next place
pub next_place : (bytes block : List ℕ) (i d : ℕ) → i < length block → (bytes ++ take i block) ++ get_or block i d ∷ [] ≡ bytes ++ take (i + 1) block
next_place bytes block i d h = append_assoc bytes (take i block) (get_or block i d ∷ []) ∙ ap (λ t. bytes ++ t) (rw add-one (sym (take-suc block i d h)))

-- the byte at a place, and those behind it
pub from_place : (bytes block : List ℕ) (i d : ℕ) → i < length block → (bytes ++ take i block) ++ get_or block i d ∷ drop (i + 1) block ≡ bytes ++ block
from_place bytes block i d h = sym (append_assoc (bytes ++ take i block) (get_or block i d ∷ []) (drop (i + 1) block)) ∙
    ap (λ t. t ++ drop (i + 1) block) (next_place bytes block i d h) ∙ at_place bytes block (i + 1)

-- what was written out of what is held
pub Holds-out : (is_text : List ℕ → Type 0) (held : List ℕ) (before middle after : Option (List ℕ)) → Holds is_text held before middle → Takes middle held after →
    TakesA is_text before after
Holds-out is_text held before middle after h t = (h.written ++ held, h.text, takes_then before middle after h.written held h.taken t)

-- the whole report, where nothing stands behind the last line end
pub Stands-whole : (writes : Writes) (start : State) (bytes : List ℕ) (c : Cutter) (held : List ℕ) (before after : Option (List ℕ)) →
    ends_at_end (state_of c.place) ≡ false → Stands writes start bytes c held before after → Holds (IsReport writes c.format.delimiter start bytes) held before after
Stands-whole writes start bytes c held before after e s =
    Stands-holds writes start bytes c held before after (IsReport writes c.format.delimiter start bytes) s (λ written f. (
      f.records,
      (
        f.records,
        f.state,
        f.rest,
        f.cut,
        (state_of c.place, fields_of c.fields, c.field.items, f.fed, closed_in_quotes (state_of c.place) e),
        sym (ap (λ l. f.records ++ l) (IsSoFar-last writes start bytes c (written ++ held) f false e) ∙ append-nil f.records),
      ),
      f.answered,
    ))

-- and where one record does, and was answered
pub Stands-last : (writes writes' : Writes) (start : State) (bytes : List ℕ) (c : Cutter) (held added : List ℕ) (fields : Record) (before after : Option (List ℕ)) →
    ends_at_end (state_of c.place) ≡ true → in_quotes (state_of c.place) ≡ false → fields ≡ fields_of c.fields ++ c.field.items ∷ [] →
    Stands writes start bytes c held before after → Adds writes writes' fields added → Holds (IsReport writes' c.format.delimiter start bytes) (held ++ added) before after
Stands-last writes writes' start bytes c held added fields before after e unquoted is s on =
    let f = s.so_far in record {
      written = s.written;
      taken = s.taken;
      text = (
        f.records ++ fields ∷ [],
        (
          f.records,
          f.state,
          f.rest,
          f.cut,
          (state_of c.place, fields_of c.fields, c.field.items, f.fed, unquoted),
          sym (ap (λ l. f.records ++ l) (IsSoFar-last writes start bytes c (s.written ++ held) f true e ∙ ap (λ r. r ∷ []) (sym is))),
        ),
        subst (λ t. writes' (f.records ++ fields ∷ []) t) (append_assoc s.written held added) (on f.records (s.written ++ held) f.answered),
      );
    }

-- and where it is refused
pub Stands-last-refused : (writes : Writes) (refuses : Record → Type 0) (start : State) (bytes : List ℕ) (c : Cutter) (held : List ℕ) (fields : Record)
    (before after to_come : Option (List ℕ)) (feeds : ℕ) → ends_at_end (state_of c.place) ≡ true → fields ≡ fields_of c.fields ++ c.field.items ∷ [] → IsAtEnd to_come →
    feeds ≡ c.feeds_before → Stands writes start bytes c held before after → refuses fields →
    Holds (IsReportBefore writes refuses c.format.delimiter start 0 feeds to_come bytes) held before after
Stands-last-refused writes refuses start bytes c held fields before after to_come feeds e is end counts s on =
    Stands-holds writes start bytes c held before after (IsReportBefore writes refuses c.format.delimiter start 0 feeds to_come bytes) s (λ written f. (
      f.records,
      f.state,
      f.rest,
      fields,
      f.cut,
      inr (end, IsSoFar-last writes start bytes c (written ++ held) f true e ∙ ap (λ r. r ∷ []) (sym is)),
      counts ∙ f.counts.before e ∙ from_none (feeds_before f.state bytes f.rest),
      on,
      f.answered,
    ))

-- nothing was read yet
pub Stands-nothing : (writes : Writes) → writes [] [] → (start : State) (c : Cutter) (held : List ℕ) (a : Option (List ℕ)) → state_of c.place ≡ start → fields_of c.fields ≡ [] →
    c.field.items ≡ [] → c.feeds ≡ 0 → c.feeds_before ≡ 0 → held ≡ [] → Stands writes start [] c held a a
Stands-nothing writes none start c held a place fields field feeds feeds_before empty = record {
  written = [];
  taken = takes_nothing a;
  so_far = record {
    records = [];
    state = start;
    rest = [];
    cut = uncut start [];
    fed = at_start c.format.delimiter start (state_of c.place) (fields_of c.fields) c.field.items place fields field;
    counts = Counts-nothing c start place feeds feeds_before;
    quotes = λ closed. closed_quotes c start [] (ap ends_at_end place ∙ closed);
    answered = rw empty none;
  };
}

-- what was answered so far is the report on the records that are ended
pub Stands-ended : (writes : Writes) (start : State) (bytes : List ℕ) (c : Cutter) (held : List ℕ) (before after : Option (List ℕ)) →
    Stands writes start bytes c held before after → Holds (IsReportOnEnded writes c.format.delimiter start bytes) held before after
Stands-ended writes start bytes c held before after s =
    Stands-holds writes start bytes c held before after (IsReportOnEnded writes c.format.delimiter start bytes) s
    (λ written f. (f.records, f.state, f.rest, f.cut, (state_of c.place, fields_of c.fields, c.field.items, f.fed), f.answered))

-- where a sink fails in the middle of what is held, it took a beginning of the report
pub Holds-begins : (writes : Writes) (d : ℕ) (start : State) (to_come : Option (List ℕ)) (bytes held : List ℕ) (is_text : List ℕ → Type 0)
    (before middle after : Option (List ℕ)) →
    ((text : List ℕ) → is_text text → IsReportOnFirst writes d start bytes text ⊎ (IsAtEnd to_come × IsReport writes d start bytes text)) →
    Holds is_text held before middle → TakesFront middle held after → TakesA (IsBeginning writes d start to_come bytes) before after
Holds-begins writes d start to_come bytes held is_text before middle after on h t =
    let f = front_then before middle after h.written held h.taken t in (
      f.front,
      (
        f.rest,
        subst (λ u. IsReportOnFirst writes d start bytes u ⊎ (IsAtEnd to_come × IsReport writes d start bytes u)) f.whole (on (h.written ++ held) h.text),
      ),
      f.taken,
    )

-- and so it did where it failed in the middle of the answers to some first records
pub BreaksOff-begins : (writes : Writes) (d : ℕ) (start : State) (to_come : Option (List ℕ)) (bytes : List ℕ) (before after : Option (List ℕ)) →
    BreaksOff writes d start bytes before after → TakesA (IsBeginning writes d start to_come bytes) before after
BreaksOff-begins writes d start to_come bytes before after (text, first, f) =
    (f.front, (f.rest, subst (λ u. IsReportOnFirst writes d start bytes u ⊎ (IsAtEnd to_come × IsReport writes d start bytes u)) f.whole (inl first)), f.taken)

-- line feeds that stand in front of the bytes are counted too
pub IsReportBefore-from : (writes : Writes) (refuses : Record → Type 0) (d : ℕ) (start : State) (earlier feeds all : ℕ) (to_come : Option (List ℕ)) (bytes text : List ℕ) →
    all ≡ counted (earlier + feeds) → IsReportBefore writes refuses d start 0 feeds to_come bytes text → IsReportBefore writes refuses d start earlier all to_come bytes text
IsReportBefore-from writes refuses d start earlier feeds all to_come bytes text is (records, state, rest, fields, cut, next, counts, refused, answers) =
    (records, state, rest, fields, cut, next, is ∙ ap (λ n. counted (earlier + n)) (counts ∙ sym (from_none (feeds_before state bytes rest))) ∙ counted-more earlier (feeds_before state bytes rest), refused, answers)

-- and those are no more than can be counted
pub IsReportBefore-counted : (writes : Writes) (refuses : Record → Type 0) (d : ℕ) (start : State) (earlier all feeds : ℕ) (to_come : Option (List ℕ)) (bytes text : List ℕ) →
    earlier ≡ counted all → IsReportBefore writes refuses d start earlier feeds to_come bytes text → IsReportBefore writes refuses d start all feeds to_come bytes text
IsReportBefore-counted writes refuses d start earlier all feeds to_come bytes text is (records, state, rest, fields, cut, next, counts, refused, answers) =
    let same = counts ∙ ap (λ n. counted (n + feeds_before state bytes rest)) is ∙ counted-more-first all (feeds_before state bytes rest) in
    (records, state, rest, fields, cut, next, same, refused, answers)

-- where the bytes end between quotes, what was answered so far is the report in front of the quote
pub Stands-quote : (writes : Writes) (start : State) (bytes : List ℕ) (c : Cutter) (held : List ℕ) (before after : Option (List ℕ)) (earlier line : ℕ) →
    in_quotes (state_of c.place) ≡ true → line ≡ counted (earlier + c.feeds_to_quote + 1) →
    Stands writes start bytes c held before after → Holds (IsReportBeforeQuote writes c.format.delimiter start earlier line bytes) held before after
Stands-quote writes start bytes c held before after earlier line e is s =
    Stands-holds writes start bytes c held before after (IsReportBeforeQuote writes c.format.delimiter start earlier line bytes) s (λ written f. (
      (f.records, f.state, f.rest, f.cut, (state_of c.place, fields_of c.fields, c.field.items, f.fed), f.answered),
      λ closed. ends_in_quotes c start bytes earlier line (f.quotes closed) e is,
    ))

-- whatever is kept last
pub first_weaker : (writes writes' : Writes) → ((records : List Record) (text : List ℕ) → writes records text → writes' records text) →
    (d : ℕ) (start : State) (bytes held : List ℕ) (before after : Option (List ℕ)) →
    Holds (IsReportOnFirst writes d start bytes) held before after → Holds (IsReportOnFirst writes' d start bytes) held before after
first_weaker writes writes' on d start bytes held before after h = record {
  written = h.written;
  taken = h.taken;
  text = (h.text.0, h.text.1, h.text.2, h.text.3, on h.text.0 (h.written ++ held) h.text.4);
}
