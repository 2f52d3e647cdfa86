-- The quote that opened the field of a record that isn't ended yet, as one more byte is taken.
use Rattle.std.proofs.Common.{◌≡◌, Bool, ℕ, ◌+◌, ◌==◌, List, [], ◌∷◌, ◌++◌, if◌then◌else◌, true, false, refl, sym, ap, ◌∙◌, append_assoc, arith}
use Rattle.std.proofs.lemmas.Bool.{eqb-true}
use Rattle.std.proofs.lemmas.List.{append-nil}
use Rattle.csv.proofs.WriteFacts.{escaped-append}
use Rattle.csv.specs.Machine.{ends_at_end, step}
use Rattle.csv.specs.Writing.{escaped}
use Rattle.csv.specs.declared.parser.Action.{Action}
use Rattle.csv.specs.declared.parser.Action.TheVariants as act
use Rattle.csv.specs.declared.parser.State.{State}
use Rattle.csv.specs.declared.parser.State.TheVariants as st
use Rattle.phone_csv.specs.Feeds.{counted, line_feeds}
use Rattle.phone_csv.specs.Formats.{reading, state_of, writing}
use Rattle.phone_csv.specs.Quotes.{EndsInQuotes, IsBeforeField, begins_field, opens_quote}
use Rattle.phone_csv.specs.Records.{in_quotes}
use Rattle.phone_csv.specs.Runs.{Opened, Quotes, after_quote}
use Rattle.phone_csv.specs.declared.cutter.Cutter.{Cutter}
use Rattle.phone_csv.specs.declared.machine.Place.{Place}
use Rattle.phone_csv.specs.declared.machine.Place.TheVariants as place
use Rattle.phone_csv.proofs.FeedLemmas.{by_quote, in_field, in_front, in_quoted, past_return}
use Rattle.phone_csv.proofs.SpelledLemmas.{escaped_other, escaped_quote}

-- behind the end of a record the text is neither between quotes nor behind one
end_plain : (r : Bool) → in_quotes (if r then st.AfterCr else st.StartRecord) ≡ false
end_plain true = refl
end_plain false = refl

end_no_quote : (r : Bool) → after_quote (if r then st.AfterCr else st.StartRecord) ≡ false
end_no_quote true = refl
end_no_quote false = refl

-- in a field without quotes no byte opens them
field_plain : (a b : Bool) (s : State) → in_quotes s ≡ false → in_quotes (in_field a b s).0 ≡ false
field_plain true b s n = refl
field_plain false true s n = n
field_plain false false s n = refl

field_no_quote : (a b : Bool) (s : State) → after_quote s ≡ false → after_quote (in_field a b s).0 ≡ false
field_no_quote true b s n = refl
field_no_quote false true s n = n
field_no_quote false false s n = refl

-- elsewhere a quote alone leads between quotes
by_quote_opens : (q a b : Bool) (t s : State) (action : Action) → in_quotes s ≡ false → in_quotes (by_quote q a b t action s).0 ≡ true → q ≡ true
by_quote_opens true a b t s action n h = refl
by_quote_opens false a b t s action n h = absurd (cc (sym (field_plain a b s n) ∙ h))

by_quote_no_quote : (q a b : Bool) (t s : State) (action : Action) → after_quote t ≡ false → after_quote s ≡ false → after_quote (by_quote q a b t action s).0 ≡ false
by_quote_no_quote true a b t s action m n = m
by_quote_no_quote false a b t s action m n = field_no_quote a b s n

front_opens : (r l q a : Bool) (s : State) → in_quotes s ≡ false → in_quotes (in_front r l q a s).0 ≡ true → q ≡ true
front_opens true l q a s n h = cc h
front_opens false true q a s n h = cc h
front_opens false false q a s n h = by_quote_opens q a false st.InQuoted s act.Skip n h

front_no_quote : (r l q a : Bool) (s : State) → after_quote s ≡ false → after_quote (in_front r l q a s).0 ≡ false
front_no_quote true l q a s n = refl
front_no_quote false true q a s n = refl
front_no_quote false false q a s n = by_quote_no_quote q a false st.InQuoted s act.Skip refl n

return_opens : (r l q a : Bool) (s : State) → in_quotes s ≡ false → in_quotes (past_return r l q a s).0 ≡ true → q ≡ true
return_opens r true q a s n h = cc h
return_opens r false q a s n h = front_opens r false q a s n h

return_no_quote : (r l q a : Bool) (s : State) → after_quote s ≡ false → after_quote (past_return r l q a s).0 ≡ false
return_no_quote r true q a s n = refl
return_no_quote r false q a s n = front_no_quote r false q a s n

-- between quotes a quote leads behind one, and no other byte does
quoted_stays : (q : Bool) → in_quotes (in_quoted q).0 ≡ true → q ≡ false
quoted_stays true h = cc h
quoted_stays false h = refl

quoted_leaves : (q : Bool) → after_quote (in_quoted q).0 ≡ true → q ≡ true
quoted_leaves true h = refl
quoted_leaves false h = cc h

-- one more byte behind the quote
grown : (front inner inner' bytes : List ℕ) (x : ℕ) → bytes ≡ front ++ 34 ∷ inner → inner ++ x ∷ [] ≡ inner' → bytes ++ x ∷ [] ≡ front ++ 34 ∷ inner'
grown front inner inner' bytes x whole more =
    ap (λ t. t ++ x ∷ []) whole ∙ append_assoc front (34 ∷ inner) (x ∷ []) ∙ ap (λ t. front ++ 34 ∷ t) more

same_count : (b : Bool) (feeds quote now : ℕ) → b ≡ true → now ≡ (if b then feeds else quote) → now ≡ feeds
same_count true feeds quote now e is = is
same_count false feeds quote now e is = cc e

module _ (d : ℕ) (start : State) (bytes : List ℕ) (x feeds quote now : ℕ) where
  -- a quote that opens a field
  opened : (b : Bool) → (x == 34) ≡ true → IsBeforeField d start bytes → feeds ≡ counted (line_feeds bytes) → b ≡ true → now ≡ (if b then feeds else quote) →
      Opened d start (bytes ++ x ∷ []) [] now
  unfolding escaped
  opened b e before count is counts = record {
    front = bytes;
    field = [];
    before = before;
    whole = ap (λ y. bytes ++ y ∷ []) (eqb-true x 34 e);
    feeds_before = same_count b feeds quote now is counts ∙ count;
  }

  -- a byte of the field
  kept : (x == 34) ≡ false → Opened d start bytes [] quote → now ≡ quote → Opened d start (bytes ++ x ∷ []) [] now
  kept n o counts =
      let w = writing d in
      let plain : x ≡ 34 → ⊥ = λ e. absurd (cc (rw e at n)) in
      let more = append_assoc (escaped w o.field) [] (x ∷ []) ∙ ap (λ t. escaped w o.field ++ t) (sym (escaped_other d x plain))
      ∙ sym (escaped-append w o.field (x ∷ [])) ∙ sym (append-nil (escaped w (o.field ++ x ∷ []))) in
      record {
        front = o.front;
        field = o.field ++ x ∷ [];
        before = o.before;
        whole = grown o.front (escaped w o.field ++ []) (escaped w (o.field ++ x ∷ []) ++ []) bytes x o.whole more;
        feeds_before = counts ∙ o.feeds_before;
      }

  -- a quote behind it
  left : (x == 34) ≡ true → Opened d start bytes [] quote → now ≡ quote → Opened d start (bytes ++ x ∷ []) (34 ∷ []) now
  left e o counts =
      let w = writing d in
      let more = append_assoc (escaped w o.field) [] (x ∷ []) ∙ ap (λ y. escaped w o.field ++ y ∷ []) (eqb-true x 34 e) in
      record {
        front = o.front;
        field = o.field;
        before = o.before;
        whole = grown o.front (escaped w o.field ++ []) (escaped w o.field ++ 34 ∷ []) bytes x o.whole more;
        feeds_before = counts ∙ o.feeds_before;
      }

  -- the second of two quotes
  doubled : (x == 34) ≡ true → Opened d start bytes (34 ∷ []) quote → now ≡ quote → Opened d start (bytes ++ x ∷ []) [] now
  doubled e o counts =
      let w = writing d in
      let more = append_assoc (escaped w o.field) (34 ∷ []) (x ∷ []) ∙ ap (λ y. escaped w o.field ++ 34 ∷ y ∷ []) (eqb-true x 34 e)
      ∙ ap (λ t. escaped w o.field ++ t) (sym (escaped_quote d 34 refl)) ∙ sym (escaped-append w o.field (34 ∷ [])) ∙ sym (append-nil (escaped w (o.field ++ 34 ∷ []))) in
      record {
        front = o.front;
        field = o.field ++ 34 ∷ [];
        before = o.before;
        whole = grown o.front (escaped w o.field ++ 34 ∷ []) (escaped w (o.field ++ 34 ∷ []) ++ []) bytes x o.whole more;
        feeds_before = counts ∙ o.feeds_before;
      }

  -- each byte at each place
  within : (p : Place) → (in_quotes (state_of p) ≡ true → Opened d start bytes [] quote) → (after_quote (state_of p) ≡ true → Opened d start bytes (34 ∷ []) quote) →
      (begins_field (state_of p) ≡ true → IsBeforeField d start bytes) → feeds ≡ counted (line_feeds bytes) →
      now ≡ (if opens_quote (state_of p) x then feeds else quote) → in_quotes (step (reading d) (state_of p) x).0 ≡ true → Opened d start (bytes ++ x ∷ []) [] now
  within place.StartRecord was behind stands count counts h =
      let q = front_opens (x == 13) (x == 10) (x == 34) (x == d) _ (end_plain (x == 13)) h in
      opened (x == 34) q (stands refl) count q counts
  within place.StartField was behind stands count counts h =
      let q = by_quote_opens (x == 34) (x == d) _ st.InQuoted _ act.Skip (end_plain (x == 13)) h in
      opened (x == 34) q (stands refl) count q counts
  within place.InField was behind stands count counts h = absurd (cc (sym (field_plain (x == d) _ _ (end_plain (x == 13))) ∙ h))
  within place.InQuoted was behind stands count counts h = kept (quoted_stays (x == 34) h) (was refl) counts
  within place.AfterQuote was behind stands count counts h =
      doubled (by_quote_opens (x == 34) (x == d) _ st.InQuoted _ act.Copy (end_plain (x == 13)) h) (behind refl) counts
  within place.AfterReturn was behind stands count counts h =
      let q = return_opens (x == 13) (x == 10) (x == 34) (x == d) _ (end_plain (x == 13)) h in
      opened (x == 34) q (stands refl) count q counts

  behind_one : (p : Place) → (in_quotes (state_of p) ≡ true → Opened d start bytes [] quote) →
      now ≡ (if opens_quote (state_of p) x then feeds else quote) → after_quote (step (reading d) (state_of p) x).0 ≡ true → Opened d start (bytes ++ x ∷ []) (34 ∷ []) now
  behind_one place.StartRecord was counts h = absurd (cc (sym (front_no_quote (x == 13) (x == 10) (x == 34) (x == d) _ (end_no_quote (x == 13))) ∙ h))
  behind_one place.StartField was counts h = absurd (cc (sym (by_quote_no_quote (x == 34) (x == d) _ st.InQuoted _ act.Skip refl (end_no_quote (x == 13))) ∙ h))
  behind_one place.InField was counts h = absurd (cc (sym (field_no_quote (x == d) _ _ (end_no_quote (x == 13))) ∙ h))
  behind_one place.InQuoted was counts h = left (quoted_leaves (x == 34) h) (was refl) counts
  behind_one place.AfterQuote was counts h = absurd (cc (sym (by_quote_no_quote (x == 34) (x == d) _ st.InQuoted _ act.Copy refl (end_no_quote (x == 13))) ∙ h))
  behind_one place.AfterReturn was counts h = absurd (cc (sym (return_no_quote (x == 13) (x == 10) (x == 34) (x == d) _ (end_no_quote (x == 13))) ∙ h))

-- one more byte
pub Quotes-next : (c c' : Cutter) (start : State) (bytes : List ℕ) (x : ℕ) → Quotes c start bytes → (begins_field (state_of c.place) ≡ true → IsBeforeField c.format.delimiter start bytes) →
    c.feeds ≡ counted (line_feeds bytes) → c'.format ≡ c.format → state_of c'.place ≡ (step (reading c.format.delimiter) (state_of c.place) x).0 →
    c'.feeds_to_quote ≡ (if opens_quote (state_of c.place) x then c.feeds else c.feeds_to_quote) → Quotes c' start (bytes ++ x ∷ [])
Quotes-next c c' start bytes x was stands count same place counts = record {
  within = λ h. rw same (within c.format.delimiter start bytes x c.feeds c.feeds_to_quote c'.feeds_to_quote c.place was.within was.behind stands count counts (ap in_quotes (sym place) ∙ h));
  behind = λ h. rw same (behind_one c.format.delimiter start bytes x c.feeds c.feeds_to_quote c'.feeds_to_quote c.place was.within counts (ap after_quote (sym place) ∙ h));
}

closed_plain : (s : State) → ends_at_end s ≡ false → in_quotes s ≡ false
closed_plain st.StartRecord e = refl
closed_plain st.AfterCr e = refl
closed_plain st.StartField e = refl
closed_plain st.InField e = refl
closed_plain st.InQuoted e = cc e
closed_plain st.AfterQuote e = refl
closed_plain st.InEscape e = refl
closed_plain st.InComment e = refl

closed_no_quote : (s : State) → ends_at_end s ≡ false → after_quote s ≡ false
closed_no_quote st.StartRecord e = refl
closed_no_quote st.AfterCr e = refl
closed_no_quote st.StartField e = refl
closed_no_quote st.InField e = refl
closed_no_quote st.InQuoted e = refl
closed_no_quote st.AfterQuote e = cc e
closed_no_quote st.InEscape e = refl
closed_no_quote st.InComment e = refl

-- in front of a record there is no quote
pub closed_quotes : (c : Cutter) (start : State) (bytes : List ℕ) → ends_at_end (state_of c.place) ≡ false → Quotes c start bytes
closed_quotes c start bytes e = record {
  within = λ h. absurd (cc (sym (closed_plain (state_of c.place) e) ∙ h));
  behind = λ h. absurd (cc (sym (closed_no_quote (state_of c.place) e) ∙ h));
}

pub closed_in_quotes : (s : State) → ends_at_end s ≡ false → in_quotes s ≡ false
closed_in_quotes = closed_plain

-- the end of the bytes, between quotes
pub ends_in_quotes : (c : Cutter) (start : State) (bytes : List ℕ) (earlier line : ℕ) → Quotes c start bytes → in_quotes (state_of c.place) ≡ true →
    line ≡ counted (earlier + c.feeds_to_quote + 1) → EndsInQuotes c.format.delimiter start earlier line bytes
ends_in_quotes c start bytes earlier line q e is =
    let o = q.within e in
    let feeds : c.feeds_to_quote ≡ counted (line_feeds o.front) = o.feeds_before in (
      o.front,
      record {
        before = o.before;
        field = o.field;
        whole = o.whole ∙ ap (λ t. o.front ++ 34 ∷ t) (append-nil (escaped (writing c.format.delimiter) o.field));
      },
      is ∙ ap (λ n. counted (earlier + n + 1)) feeds ∙ counted_line earlier (line_feeds o.front),
    )
  where
    counted_line : (m n : ℕ) → counted (m + counted n + 1) ≡ counted (m + n + 1)
    counted_line m n = omega arith
