-- Line feeds that are counted byte by byte, and those in front of a record.
use Rattle.std.proofs.Common.{◌≡◌, ◌≢◌, ◌⊎◌, inl, inr, Bool, ℕ, ◌+◌, ◌==◌, ◌||◌, List, [], ◌∷◌, ◌++◌, if◌then◌else◌, true, false, refl, sym, ap, ◌∙◌, arith}
use Rattle.std.proofs.lemmas.List.Sums.{sum_by-append}
use Rattle.csv.specs.Machine.{ends_at_end, is_end, step}
use Rattle.csv.specs.declared.parser.Action.{Action}
use Rattle.csv.specs.declared.parser.Action.TheVariants as act
use Rattle.csv.specs.declared.parser.State.{State}
use Rattle.csv.specs.declared.parser.State.TheVariants as st
use Rattle.phone_csv.specs.Feeds.{counted, feeds_before, from_record, line_feeds, past_line_ends}
use Rattle.phone_csv.specs.Formats.{reading, state_of}
use Rattle.phone_csv.specs.Runs.{Counts}
use Rattle.phone_csv.specs.declared.cutter.Cutter.{Cutter}
use Rattle.phone_csv.specs.declared.machine.Place.{Place}
use Rattle.phone_csv.specs.declared.machine.Place.TheVariants as place

-- a byte that ends a line
abbrev pub is_line_end : ℕ → Bool
is_line_end x = (x == 13) || (x == 10)

pub line_feeds-append : (a b : List ℕ) → line_feeds (a ++ b) ≡ line_feeds a + line_feeds b
line_feeds-append a b = sum_by-append _ a b

-- a count that stays where it can't grow
pub counted-more : (m n : ℕ) → counted (m + counted n) ≡ counted (m + n)
counted-more m n = omega arith

pub counted-more-first : (m n : ℕ) → counted (counted m + n) ≡ counted (m + n)
counted-more-first m n = omega arith

-- where none were counted before
pub from_none : (n : ℕ) → counted n ≡ counted (0 + n)
from_none n = ap counted (omega arith)

-- one more byte is counted
pub line_feeds-next : (bytes : List ℕ) (x feeds : ℕ) (b : Bool) → (x == 10) ≡ b → feeds ≡ counted (line_feeds bytes) →
    (if b then counted (feeds + 1) else feeds) ≡ counted (line_feeds (bytes ++ x ∷ []))
line_feeds-next bytes x feeds true e was = rw (line_feeds-append bytes (x ∷ []), e, was) (omega arith)
line_feeds-next bytes x feeds false e was = rw (line_feeds-append bytes (x ∷ []), e, was) (omega arith)

-- behind a byte of a record no line end is passed over
pub past_line_ends-begun : (rest more : List ℕ) → past_line_ends rest ≢ [] → past_line_ends (rest ++ more) ≡ past_line_ends rest ++ more
past_line_ends-begun [] more some = absurd (some refl)
past_line_ends-begun (c ∷ cs) more some = by (is_line_end c) refl (past_line_ends-begun cs more)
  where
    by : (b : Bool) → is_line_end c ≡ b → (past_line_ends cs ≢ [] → past_line_ends (cs ++ more) ≡ past_line_ends cs ++ more) →
        past_line_ends (c ∷ (cs ++ more)) ≡ past_line_ends (c ∷ cs) ++ more
    by true e on = rw e (on (λ h. some (rw e h)))
    by false e on = rw e refl

pub past_line_ends-blank : (rest more : List ℕ) → past_line_ends rest ≡ [] → past_line_ends (rest ++ more) ≡ past_line_ends more
past_line_ends-blank [] more none = refl
past_line_ends-blank (c ∷ cs) more none = by (is_line_end c) refl (past_line_ends-blank cs more)
  where
    by : (b : Bool) → is_line_end c ≡ b → (past_line_ends cs ≡ [] → past_line_ends (cs ++ more) ≡ past_line_ends more) →
        past_line_ends (c ∷ (cs ++ more)) ≡ past_line_ends more
    by true e on = rw e (on (rw e at none))
    by false e on = absurd (cc (rw e at none))

-- a record that has begun goes on with what comes behind it
from_record-begun : (state : State) (rest more : List ℕ) → (ends_at_end state ≡ true) ⊎ (past_line_ends rest ≢ []) →
    from_record state (rest ++ more) ≡ from_record state rest ++ more
from_record-begun state rest more (inl is_open) = rw is_open refl
from_record-begun state rest more (inr some) = by (ends_at_end state) refl
  where
    by : (b : Bool) → ends_at_end state ≡ b → from_record state (rest ++ more) ≡ from_record state rest ++ more
    by true e = rw e refl
    by false e = rw e (past_line_ends-begun rest more some)

-- and so the same line feeds stand in front of it
pub feeds_before-begun : (state : State) (bytes rest more : List ℕ) → (ends_at_end state ≡ true) ⊎ (past_line_ends rest ≢ []) →
    feeds_before state (bytes ++ more) (rest ++ more) ≡ feeds_before state bytes rest
feeds_before-begun state bytes rest more begun =
    let a = line_feeds-append bytes more in
    let b = line_feeds-append (from_record state rest) more in
    rw (from_record-begun state rest more begun, a, b) (omega arith)

after_end_closed : (r : Bool) → ends_at_end (if r then st.AfterCr else st.StartRecord) ≡ false
after_end_closed true = refl
after_end_closed false = refl

-- what a byte does in a field without quotes
abbrev pub in_field : (a b : Bool) → State → State × Action
in_field a b s = if a then (st.StartField, act.EndField) else if b then (s, act.EndRecord) else (st.InField, act.Copy)

in_field_open : (a b : Bool) (s : State) → is_end (in_field a b s).1 ≡ false → ends_at_end (in_field a b s).0 ≡ true
in_field_open true b s e = refl
in_field_open false true s e = cc e
in_field_open false false s e = refl

in_field_closed : (a b : Bool) (s : State) → ends_at_end s ≡ false → is_end (in_field a b s).1 ≡ true → ends_at_end (in_field a b s).0 ≡ false
in_field_closed true b s h e = cc e
in_field_closed false true s h e = h
in_field_closed false false s h e = cc e

-- and behind a quote, or in front of a field
abbrev pub by_quote : (q a b : Bool) → State → Action → State → State × Action
by_quote q a b t act s = if q then (t, act) else in_field a b s

by_quote_open : (q a b : Bool) (t s : State) (action : Action) → ends_at_end t ≡ true → is_end (by_quote q a b t action s).1 ≡ false → ends_at_end (by_quote q a b t action s).0 ≡ true
by_quote_open true a b t s action h e = h
by_quote_open false a b t s action h e = in_field_open a b s e

by_quote_closed : (q a b : Bool) (t s : State) (action : Action) → is_end action ≡ false → ends_at_end s ≡ false → is_end (by_quote q a b t action s).1 ≡ true →
    ends_at_end (by_quote q a b t action s).0 ≡ false
by_quote_closed true a b t s action n h e = absurd (cc (sym n ∙ e))
by_quote_closed false a b t s action n h e = in_field_closed a b s h e

-- between quotes
abbrev pub in_quoted : Bool → State × Action
in_quoted q = if q then (st.AfterQuote, act.Skip) else (st.InQuoted, act.Copy)

quoted_open : (q : Bool) → ends_at_end (in_quoted q).0 ≡ true
quoted_open true = refl
quoted_open false = refl

quoted_goes_on : (q : Bool) → is_end (in_quoted q).1 ≡ false
quoted_goes_on true = refl
quoted_goes_on false = refl

-- a record that has begun and isn't ended stays begun
pub stays_open : (d : ℕ) (p : Place) (x : ℕ) → ends_at_end (state_of p) ≡ true → is_end (step (reading d) (state_of p) x).1 ≡ false →
    ends_at_end (step (reading d) (state_of p) x).0 ≡ true
stays_open d place.StartRecord x h e = cc h
stays_open d place.StartField x h e = by_quote_open (x == 34) (x == d) (is_line_end x) st.InQuoted _ act.Skip refl e
stays_open d place.InField x h e = in_field_open (x == d) (is_line_end x) _ e
stays_open d place.InQuoted x h e = quoted_open (x == 34)
stays_open d place.AfterQuote x h e = by_quote_open (x == 34) (x == d) (is_line_end x) st.InQuoted _ act.Copy refl e
stays_open d place.AfterReturn x h e = cc h

-- in front of a record: a line end stays there, and another byte begins one
abbrev pub in_front : (r l q a : Bool) → State → State × Action
in_front r l q a s = if r || l then (st.StartRecord, act.Skip) else by_quote q a (r || l) st.InQuoted act.Skip s

in_front_goes_on : (r l q a : Bool) (s : State) → is_end (in_front r l q a s).1 ≡ false
in_front_goes_on true l q a s = refl
in_front_goes_on false true q a s = refl
in_front_goes_on false false true a s = refl
in_front_goes_on false false false true s = refl
in_front_goes_on false false false false s = refl

in_front_stays : (r l q a : Bool) (s : State) → (r || l) ≡ true → ends_at_end (in_front r l q a s).0 ≡ false
in_front_stays true l q a s e = refl
in_front_stays false true q a s e = refl
in_front_stays false false q a s e = cc e

in_front_begins : (r l q a : Bool) (s : State) → (r || l) ≡ false → ends_at_end (in_front r l q a s).0 ≡ true
in_front_begins true l q a s e = cc e
in_front_begins false true q a s e = cc e
in_front_begins false false true a s e = refl
in_front_begins false false false true s e = refl
in_front_begins false false false false s e = refl

-- behind a carriage return a line feed is one too
abbrev pub past_return : (r l q a : Bool) → State → State × Action
past_return r l q a s = if l then (st.StartRecord, act.Skip) else in_front r l q a s

past_return_goes_on : (r l q a : Bool) (s : State) → is_end (past_return r l q a s).1 ≡ false
past_return_goes_on r true q a s = refl
past_return_goes_on r false q a s = in_front_goes_on r false q a s

past_return_stays : (r l q a : Bool) (s : State) → (r || l) ≡ true → ends_at_end (past_return r l q a s).0 ≡ false
past_return_stays r true q a s e = refl
past_return_stays r false q a s e = in_front_stays r false q a s e

past_return_begins : (r l q a : Bool) (s : State) → (r || l) ≡ false → ends_at_end (past_return r l q a s).0 ≡ true
past_return_begins true l q a s e = cc e
past_return_begins false true q a s e = cc e
past_return_begins false false q a s e = in_front_begins false false q a s e

-- in front of a record no byte ends one
pub goes_on : (d : ℕ) (p : Place) (x : ℕ) → ends_at_end (state_of p) ≡ false → is_end (step (reading d) (state_of p) x).1 ≡ false
goes_on d place.StartRecord x h = in_front_goes_on (x == 13) (x == 10) (x == 34) (x == d) _
goes_on d place.StartField x h = cc h
goes_on d place.InField x h = cc h
goes_on d place.InQuoted x h = cc h
goes_on d place.AfterQuote x h = cc h
goes_on d place.AfterReturn x h = past_return_goes_on (x == 13) (x == 10) (x == 34) (x == d) _

pub stays_in_front : (d : ℕ) (p : Place) (x : ℕ) → ends_at_end (state_of p) ≡ false → is_line_end x ≡ true → ends_at_end (step (reading d) (state_of p) x).0 ≡ false
stays_in_front d place.StartRecord x h e = in_front_stays (x == 13) (x == 10) (x == 34) (x == d) _ e
stays_in_front d place.StartField x h e = cc h
stays_in_front d place.InField x h e = cc h
stays_in_front d place.InQuoted x h e = cc h
stays_in_front d place.AfterQuote x h e = cc h
stays_in_front d place.AfterReturn x h e = past_return_stays (x == 13) (x == 10) (x == 34) (x == d) _ e

pub begins : (d : ℕ) (p : Place) (x : ℕ) → ends_at_end (state_of p) ≡ false → is_line_end x ≡ false → ends_at_end (step (reading d) (state_of p) x).0 ≡ true
begins d place.StartRecord x h e = in_front_begins (x == 13) (x == 10) (x == 34) (x == d) _ e
begins d place.StartField x h e = cc h
begins d place.InField x h e = cc h
begins d place.InQuoted x h e = cc h
begins d place.AfterQuote x h e = cc h
begins d place.AfterReturn x h e = past_return_begins (x == 13) (x == 10) (x == 34) (x == d) _ e

-- a byte that ends a record leaves the text in front of the next one
pub ends_closed : (d : ℕ) (p : Place) (x : ℕ) → is_end (step (reading d) (state_of p) x).1 ≡ true → ends_at_end (step (reading d) (state_of p) x).0 ≡ false
ends_closed d place.StartRecord x e = absurd (cc (sym (in_front_goes_on (x == 13) (x == 10) (x == 34) (x == d) _) ∙ e))
ends_closed d place.StartField x e = by_quote_closed (x == 34) (x == d) (is_line_end x) st.InQuoted _ act.Skip refl (after_end_closed (x == 13)) e
ends_closed d place.InField x e = in_field_closed (x == d) (is_line_end x) _ (after_end_closed (x == 13)) e
ends_closed d place.InQuoted x e = absurd (cc (sym (quoted_goes_on (x == 34)) ∙ e))
ends_closed d place.AfterQuote x e = by_quote_closed (x == 34) (x == d) (is_line_end x) st.InQuoted _ act.Copy refl (after_end_closed (x == 13)) e
ends_closed d place.AfterReturn x e = absurd (cc (sym (past_return_goes_on (x == 13) (x == 10) (x == 34) (x == d) _) ∙ e))

-- a byte that ends a record stands in one
pub ends_open : (d : ℕ) (p : Place) (x : ℕ) → is_end (step (reading d) (state_of p) x).1 ≡ true → ends_at_end (state_of p) ≡ true
ends_open d p x e = by (ends_at_end (state_of p)) refl
  where
    by : (b : Bool) → ends_at_end (state_of p) ≡ b → b ≡ true
    by true h = refl
    by false h = absurd (cc (sym (goes_on d p x h) ∙ e))

-- one byte that is no line end
other_byte : (x : ℕ) → is_line_end x ≡ false → past_line_ends (x ∷ []) ≡ x ∷ []
other_byte x e = rw e refl

line_end_byte : (x : ℕ) → is_line_end x ≡ true → past_line_ends (x ∷ []) ≡ []
line_end_byte x e = rw e refl

module _ (c c' : Cutter) (state : State) (bytes rest : List ℕ) (x : ℕ) (was : Counts c state bytes rest)
    (place : state_of c'.place ≡ (step (reading c.format.delimiter) (state_of c.place) x).0)
    (feeds : c'.feeds ≡ (if x == 10 then counted (c.feeds + 1) else c.feeds))
    (before : c'.feeds_before ≡ (if ends_at_end (state_of c.place) then c.feeds_before else c.feeds)) where
  feeds_are : c'.feeds ≡ counted (line_feeds (bytes ++ x ∷ []))
  feeds_are = feeds ∙ line_feeds-next bytes x c.feeds (x == 10) refl was.feeds

  -- in a record
  grown_open : ends_at_end (state_of c.place) ≡ true → is_end (step (reading c.format.delimiter) (state_of c.place) x).1 ≡ false →
      Counts c' state (bytes ++ x ∷ []) (rest ++ x ∷ [])
  grown_open is_open e =
      let still = ap ends_at_end place ∙ stays_open c.format.delimiter c.place x is_open e in
      record {
        feeds = feeds_are;
        before = λ h. (rw is_open at before) ∙ was.before is_open ∙ ap counted (sym (feeds_before-begun state bytes rest (x ∷ []) (was.begun is_open)));
        begun = λ h. begun_on (was.begun is_open);
        closed = λ h. absurd (cc (sym still ∙ h));
        blank = λ h. absurd (cc (sym still ∙ h));
      }
    where
      not_nil : (a : List ℕ) → a ++ x ∷ [] ≢ []
      not_nil [] h = cc h
      not_nil (y ∷ ys) h = cc h

      begun_on : (ends_at_end state ≡ true) ⊎ (past_line_ends rest ≢ []) → (ends_at_end state ≡ true) ⊎ (past_line_ends (rest ++ x ∷ []) ≢ [])
      begun_on (inl s) = inl s
      begun_on (inr some) = inr (λ h. not_nil (past_line_ends rest) (sym (past_line_ends-begun rest (x ∷ []) some) ∙ h))

  -- in front of one
  grown_closed : ends_at_end (state_of c.place) ≡ false → (b : Bool) → is_line_end x ≡ b → Counts c' state (bytes ++ x ∷ []) (rest ++ x ∷ [])
  grown_closed closed true e =
      let still = ap ends_at_end place ∙ stays_in_front c.format.delimiter c.place x closed e in
      record {
        feeds = feeds_are;
        before = λ h. absurd (cc (sym still ∙ h));
        begun = λ h. absurd (cc (sym still ∙ h));
        closed = λ h. was.closed closed;
        blank = λ h. past_line_ends-blank rest (x ∷ []) (was.blank closed) ∙ line_end_byte x e;
      }
  grown_closed closed false e =
      let opened = ap ends_at_end place ∙ begins c.format.delimiter c.place x closed e in
      let left = past_line_ends-blank rest (x ∷ []) (was.blank closed) ∙ other_byte x e in
      record {
        feeds = feeds_are;
        before = λ h. (rw closed at before) ∙ was.feeds ∙ ap counted (sym (rw (was.closed closed, left, line_feeds-append bytes (x ∷ [])) (omega arith)));
        begun = λ h. inr (λ none. cc (sym left ∙ none));
        closed = λ h. absurd (cc (sym opened ∙ h));
        blank = λ h. absurd (cc (sym opened ∙ h));
      }

  -- a byte that ends no record
  pub Counts-grown : is_end (step (reading c.format.delimiter) (state_of c.place) x).1 ≡ false → Counts c' state (bytes ++ x ∷ []) (rest ++ x ∷ [])
  Counts-grown e = by (ends_at_end (state_of c.place)) refl
    where
      by : (b : Bool) → ends_at_end (state_of c.place) ≡ b → Counts c' state (bytes ++ x ∷ []) (rest ++ x ∷ [])
      by true h = grown_open h e
      by false h = grown_closed h (is_line_end x) refl

  -- the byte that ends the record, and what is counted in front of it, whatever stands behind
  pub Counts-ended : is_end (step (reading c.format.delimiter) (state_of c.place) x).1 ≡ true → (more : List ℕ) →
      c'.feeds_before ≡ counted (0 + feeds_before state (bytes ++ more) (rest ++ more))
  Counts-ended e more =
      let is_open = ends_open c.format.delimiter c.place x e in
      (rw is_open at before) ∙ was.before is_open ∙ ap counted (sym (feeds_before-begun state bytes rest more (was.begun is_open))) ∙ from_none (feeds_before state (bytes ++ more) (rest ++ more))

  -- behind it nothing was read yet
  pub Counts-next : (n : Cutter) → is_end (step (reading c.format.delimiter) (state_of c.place) x).1 ≡ true → n.place ≡ c'.place → n.feeds ≡ c'.feeds →
      Counts n (state_of c'.place) (bytes ++ x ∷ []) []
  Counts-next n e same_place same_feeds =
      let closed = ap ends_at_end place ∙ ends_closed c.format.delimiter c.place x e in
      let at = ap (λ p. ends_at_end (state_of p)) same_place in
      record {
        feeds = same_feeds ∙ feeds_are;
        before = λ h. absurd (cc (sym (at ∙ closed) ∙ h));
        begun = λ h. absurd (cc (sym (at ∙ closed) ∙ h));
        closed = λ h. closed;
        blank = λ h. refl;
      }

-- nothing was read yet at all
pub Counts-nothing : (c : Cutter) (start : State) → state_of c.place ≡ start → c.feeds ≡ 0 → c.feeds_before ≡ 0 → Counts c start [] []
Counts-nothing c start place feeds before = record {
  feeds = feeds;
  before = λ h. omega (arith, before);
  begun = λ h. inl (sym (ap ends_at_end place) ∙ h);
  closed = λ h. sym (ap ends_at_end place) ∙ h;
  blank = λ h. refl;
}
