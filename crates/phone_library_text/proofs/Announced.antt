-- What the search asks of an end of a text says whether that end announces an extension.
use Rattle.std.proofs.Common.{◌≡◌, inl, inr, ℕ, ◌==◌, ◌≤◌, Bool, true, false, not, ◌||◌, ◌&&◌, nat_le, List, [], ◌∷◌, ◌++◌, length, Option, Some, None, codes, leb-true, ne_eqb, refl, ap, sym, ◌∙◌, true≢false, arith}
use Rattle.std.proofs.lemmas.Bool.{and_from, and_parts, or_cases, or_left, or_right, le-leb, not-true, not_from_false}
use Rattle.std.specs.List.{list_any, list_all}
use Rattle.std.specs.Option.{option_map_or}
use Rattle.phone_parts.specs.Suffixes.{IsOptional, is_dash, is_gap, is_lead, is_mark}
use Rattle.phone_library_text.specs.Announcements.{Announces, by_parameter, by_word, by_sign, by_dashes, by_pause, by_commas, IsLabelled, are_commas, is_blank, is_word_of, pauses, signs, words}
use Rattle.phone_library_text.specs.Letters.{is_alike}
use Rattle.phone_library_text.specs.Scans.{after_alike, allowed, announces, follows, follows_some, is_comma_run, is_dash_run, is_gap_run, is_led, is_mark_gap, is_named, is_paused}
use Rattle.phone_library_text.proofs.Alikes.{after_alike_front, after_alike_parts}

-- perhaps a mark, and a gap
pub mark_gap_of : (m g : List ℕ) → IsOptional is_mark m → list_all is_gap g ≡ true → is_mark_gap (m ++ g) ≡ true
mark_gap_of [] [] o h = refl
mark_gap_of [] (c ∷ g) o h = let parts = and_parts (is_gap c) (is_gap_run g) h in and_from _ _ (or_left _ _ parts.0) parts.1
mark_gap_of (c ∷ []) g o h = and_from _ _ (or_right _ _ (and_parts (is_mark c) true o.only).0) h
mark_gap_of (c ∷ d ∷ m) g o h = absurd (omega (arith, o.few))

pub record HasMarkGap (t : List ℕ) : Type 0 where
  pub mark : List ℕ
  pub gap : List ℕ
  pub whole : t ≡ mark ++ gap
  pub marks : IsOptional is_mark mark
  pub gaps : list_all is_gap gap ≡ true

no_mark : IsOptional is_mark []
no_mark = record { only = refl; few = omega arith }

one_mark : (c : ℕ) → is_mark c ≡ true → IsOptional is_mark (c ∷ [])
one_mark c e = record { only = and_from (is_mark c) true e refl; few = omega arith }

pub mark_gap_parts : (t : List ℕ) → is_mark_gap t ≡ true → HasMarkGap t
mark_gap_parts [] h = record { mark = []; gap = []; whole = refl; marks = no_mark; gaps = refl }
mark_gap_parts (c ∷ cs) h =
    let parts = and_parts (is_gap c || is_mark c) (is_gap_run cs) h in
    elim (or_cases (is_gap c) (is_mark c) parts.0) [
      | inl g ↦ record { mark = []; gap = c ∷ cs; whole = refl; marks = no_mark; gaps = and_from (is_gap c) (is_gap_run cs) g parts.1 }
      | inr m ↦ record { mark = c ∷ []; gap = cs; whole = refl; marks = one_mark c m; gaps = parts.1 }
    ]

-- characters of a set, and then what passes a test
pub led_of : (p : ℕ → Bool) (q : List ℕ → Bool) (lead rest : List ℕ) → list_all p lead ≡ true → q rest ≡ true → is_led p q (lead ++ rest) ≡ true
led_of p q [] [] all h = h
led_of p q [] (c ∷ rest) all h = or_left _ _ h
led_of p q (c ∷ lead) rest all h =
    let parts = and_parts (p c) (list_all p lead) all in
    or_right _ _ (and_from _ _ parts.0 (led_of p q lead rest parts.1 h))

pub record HasLed (p : ℕ → Bool) (q : List ℕ → Bool) (t : List ℕ) : Type 0 where
  pub lead : List ℕ
  pub rest : List ℕ
  pub whole : t ≡ lead ++ rest
  pub leads : list_all p lead ≡ true
  pub passes : q rest ≡ true

pub led_parts : (p : ℕ → Bool) (q : List ℕ → Bool) (t : List ℕ) → is_led p q t ≡ true → HasLed p q t
led_parts p q [] h = record { lead = []; rest = []; whole = refl; leads = refl; passes = h }
led_parts p q (c ∷ cs) h = elim (or_cases (q (c ∷ cs)) (p c && is_led p q cs) h) [
  | inl e ↦ record { lead = []; rest = c ∷ cs; whole = refl; leads = refl; passes = e }
  | inr e ↦ let parts = and_parts (p c) (is_led p q cs) e in more parts.0 (led_parts p q cs parts.1)
]
  where
    more : p c ≡ true → HasLed p q cs → HasLed p q (c ∷ cs)
    more e r = record { lead = c ∷ r.lead; rest = r.rest; whole = ap (λ t. c ∷ t) r.whole; leads = and_from (p c) (list_all p r.lead) e r.leads; passes = r.passes }

pub led_wider : (p : ℕ → Bool) (q r : List ℕ → Bool) → ((t : List ℕ) → q t ≡ true → r t ≡ true) → (t : List ℕ) → is_led p q t ≡ true → is_led p r t ≡ true
led_wider p q r wider t h =
    let l = led_parts p q t h in
    ap (is_led p r) l.whole ∙ led_of p r l.lead l.rest l.leads (wider l.rest l.passes)

-- a word, perhaps a mark, a gap
word_follows : (name word rest : List ℕ) → is_alike name word ≡ true → is_mark_gap rest ≡ true → follows (name ++ rest) word ≡ true
word_follows name word rest alike ends = ap (λ o. option_map_or is_mark_gap o false) (after_alike_front name word rest alike) ∙ ends

pub some_follows : (name rest : List ℕ) (words : List (List ℕ)) → list_any (is_alike name) words ≡ true → is_mark_gap rest ≡ true →
    follows_some words (name ++ rest) ≡ true
some_follows name rest [] any ends = absurd (true≢false (sym any))
some_follows name rest (w ∷ ws) any ends = elim (or_cases (is_alike name w) (list_any (is_alike name) ws) any) [
  | inl e ↦ or_left _ _ (word_follows name w rest e ends)
  | inr e ↦ or_right _ _ (some_follows name rest ws e ends)
]

record HasWord (word t : List ℕ) : Type 0 where
  label : List ℕ
  rest : List ℕ
  whole : t ≡ label ++ rest
  alike : is_alike label word ≡ true
  ends : is_mark_gap rest ≡ true

of_found : (text word : List ℕ) (o : Option (List ℕ)) → after_alike text word ≡ o → option_map_or is_mark_gap o false ≡ true → HasWord word text
of_found text word None e h = absurd (true≢false (sym h))
of_found text word (Some rest) e h =
    let parts = after_alike_parts text word rest e in
    record { label = parts.name; rest = rest; whole = parts.whole; alike = parts.alike; ends = h }

pub record HasLabel (words : List (List ℕ)) (t : List ℕ) : Type 0 where
  pub label : List ℕ
  pub rest : List ℕ
  pub whole : t ≡ label ++ rest
  pub labels : list_any (is_alike label) words ≡ true
  pub ends : is_mark_gap rest ≡ true

pub label_parts : (words : List (List ℕ)) (text : List ℕ) → follows_some words text ≡ true → HasLabel words text
label_parts [] text h = absurd (true≢false (sym h))
label_parts (w ∷ ws) text h = elim (or_cases (follows text w) (follows_some ws text) h) [
  | inl e ↦ let f = of_found text w (after_alike text w) refl e in
      record { label = f.label; rest = f.rest; whole = f.whole; labels = or_left _ _ f.alike; ends = f.ends }
  | inr e ↦ let r = label_parts ws text e in
      record { label = r.label; rest = r.rest; whole = r.whole; labels = or_right _ _ r.labels; ends = r.ends }
]

pub labelled_led : (p : ℕ → Bool) (words : List (List ℕ)) (t : List ℕ) → IsLabelled p (is_word_of words) t → is_led p (follows_some words) t ≡ true
labelled_led p words t h =
    ap (is_led p (follows_some words)) h.whole
    ∙ led_of p (follows_some words) h.lead (h.label ++ (h.mark ++ h.gap)) h.leads
    (some_follows h.label (h.mark ++ h.gap) words h.labels (mark_gap_of h.mark h.gap h.marks h.gaps))

pub led_labelled : (p : ℕ → Bool) (words : List (List ℕ)) (t lead rest : List ℕ) → t ≡ lead ++ rest → list_all p lead ≡ true → follows_some words rest ≡ true →
    IsLabelled p (is_word_of words) t
led_labelled p words t lead rest whole leads h =
    let w = label_parts words rest h in
    let m = mark_gap_parts w.rest w.ends in
    record {
      lead = lead;
      label = w.label;
      mark = m.mark;
      gap = m.gap;
      whole = whole ∙ ap (λ r. lead ++ r) (w.whole ∙ ap (λ r. w.label ++ r) m.whole);
      leads = leads;
      labels = w.labels;
      marks = m.marks;
      gaps = m.gaps;
    }

-- commas, perhaps a mark, a gap
abbrev is_comma : ℕ → Bool
is_comma c = c == 44

commas_of : (c : ℕ) (run rest : List ℕ) → is_comma c ≡ true → list_all is_comma run ≡ true → is_mark_gap rest ≡ true → is_comma_run (c ∷ (run ++ rest)) ≡ true
commas_of c [] rest e all h = and_from _ _ e (or_left _ _ h)
commas_of c (d ∷ run) rest e all h =
    let parts = and_parts (is_comma d) (list_all is_comma run) all in
    and_from _ _ e (or_right _ _ (commas_of d run rest parts.0 parts.1 h))

comma_run_of : (run rest : List ℕ) → are_commas run ≡ true → is_mark_gap rest ≡ true → is_comma_run (run ++ rest) ≡ true
comma_run_of [] rest are h = absurd (true≢false (sym are))
comma_run_of (c ∷ run) rest are h =
    let parts = and_parts (is_comma c) (list_all is_comma run) (and_parts _ _ are).1 in
    commas_of c run rest parts.0 parts.1 h

record HasCommas (t : List ℕ) : Type 0 where
  run : List ℕ
  rest : List ℕ
  whole : t ≡ run ++ rest
  some : 1 ≤ length run
  all : list_all is_comma run ≡ true
  ends : is_mark_gap rest ≡ true

comma_parts : (t : List ℕ) → is_comma_run t ≡ true → HasCommas t
comma_parts [] h = absurd (true≢false (sym h))
comma_parts (c ∷ cs) h =
    let parts = and_parts (is_comma c) (is_mark_gap cs || is_comma_run cs) h in
    elim (or_cases (is_mark_gap cs) (is_comma_run cs) parts.1) [
      | inl e ↦ record { run = c ∷ []; rest = cs; whole = refl; some = omega arith; all = and_from (is_comma c) true parts.0 refl; ends = e }
      | inr e ↦ let r = comma_parts cs e in
          record { run = c ∷ r.run; rest = r.rest; whole = ap (λ t. c ∷ t) r.whole; some = omega arith; all = and_from (is_comma c) (list_all is_comma r.run) parts.0 r.all; ends = r.ends }
    ]

commas_are : (run : List ℕ) → 1 ≤ length run → list_all is_comma run ≡ true → are_commas run ≡ true
commas_are run some all = and_from _ _ (not_from_false _ (ne_eqb (length run) 0 (λ e. omega (arith, e, some)))) all

pub commas_led : (t : List ℕ) → IsLabelled is_blank are_commas t → is_led is_blank is_comma_run t ≡ true
commas_led t h =
    ap (is_led is_blank is_comma_run) h.whole
    ∙ led_of is_blank is_comma_run h.lead (h.label ++ (h.mark ++ h.gap)) h.leads
    (comma_run_of h.label (h.mark ++ h.gap) h.labels (mark_gap_of h.mark h.gap h.marks h.gaps))

led_commas : (t lead rest : List ℕ) → t ≡ lead ++ rest → list_all is_blank lead ≡ true → is_comma_run rest ≡ true → IsLabelled is_blank are_commas t
led_commas t lead rest whole leads h =
    let w = comma_parts rest h in
    let m = mark_gap_parts w.rest w.ends in
    record {
      lead = lead;
      label = w.run;
      mark = m.mark;
      gap = m.gap;
      whole = whole ∙ ap (λ r. lead ++ r) (w.whole ∙ ap (λ r. w.run ++ r) m.whole);
      leads = leads;
      labels = commas_are w.run w.some w.all;
      marks = m.marks;
      gaps = m.gaps;
    }

dash_run_of : (t : List ℕ) → list_all is_dash t ≡ true → 1 ≤ length t → is_dash_run t ≡ true
dash_run_of [] all some = absurd (omega (arith, some))
dash_run_of (c ∷ cs) all some = all

-- an announcement passes the test
pub announces_of : (t : List ℕ) (n : ℕ) (signed : Bool) → Announces t n signed → announces (allowed n signed) t ≡ true
announces_of t n signed (by_parameter alike few unsigned) =
    or_left _ _ (or_left _ _ (or_left _ _ (and_from _ _ (and_from _ _ (le-leb n 20 few) (not_from_false signed unsigned)) alike)))
announces_of t n signed (by_word h few) =
    or_left _ _ (or_left _ _ (or_right _ _ (led_wider is_lead (follows_some words) (is_named (allowed n signed))
    (λ r e. or_left _ _ (and_from _ _ (le-leb n 20 few) e)) t (labelled_led is_lead words t h))))
announces_of t n signed (by_sign h few) =
    or_left _ _ (or_left _ _ (or_right _ _ (led_wider is_lead (follows_some signs) (is_named (allowed n signed))
    (λ r e. or_right _ _ (and_from _ _ (le-leb n 9 few) e)) t (labelled_led is_lead signs t h))))
announces_of t n signed (by_dashes all some few is_signed) =
    or_right _ _ (and_from _ _ (and_from _ _ (le-leb n 6 few) is_signed) (dash_run_of t all some))
announces_of t n signed (by_pause h few) =
    or_left _ _ (or_right _ _ (led_wider is_blank (follows_some pauses) (is_paused (allowed n signed))
    (λ r e. or_left _ _ (and_from _ _ (le-leb n 15 few) e)) t (labelled_led is_blank pauses t h)))
announces_of t n signed (by_commas h few) =
    or_left _ _ (or_right _ _ (led_wider is_blank is_comma_run (is_paused (allowed n signed))
    (λ r e. or_right _ _ (and_from _ _ (le-leb n 9 few) e)) t (commas_led t h)))

-- and what passes it is one
module _ (t : List ℕ) (n : ℕ) (signed : Bool) where
  of_named : HasLed is_lead (is_named (allowed n signed)) t → Announces t n signed
  of_named l = elim (or_cases (nat_le n 20 && follows_some words l.rest) (nat_le n 9 && follows_some signs l.rest) l.passes) [
    | inl e ↦ let parts = and_parts (nat_le n 20) (follows_some words l.rest) e in
        by_word (led_labelled is_lead words t l.lead l.rest l.whole l.leads parts.1) (leb-true n 20 parts.0)
    | inr e ↦ let parts = and_parts (nat_le n 9) (follows_some signs l.rest) e in
        by_sign (led_labelled is_lead signs t l.lead l.rest l.whole l.leads parts.1) (leb-true n 9 parts.0)
  ]

  of_paused : HasLed is_blank (is_paused (allowed n signed)) t → Announces t n signed
  of_paused l = elim (or_cases (nat_le n 15 && follows_some pauses l.rest) (nat_le n 9 && is_comma_run l.rest) l.passes) [
    | inl e ↦ let parts = and_parts (nat_le n 15) (follows_some pauses l.rest) e in
        by_pause (led_labelled is_blank pauses t l.lead l.rest l.whole l.leads parts.1) (leb-true n 15 parts.0)
    | inr e ↦ let parts = and_parts (nat_le n 9) (is_comma_run l.rest) e in
        by_commas (led_commas t l.lead l.rest l.whole l.leads parts.1) (leb-true n 9 parts.0)
  ]

  of_dashes : ((nat_le n 6 && signed) && is_dash_run t) ≡ true → Announces t n signed
  of_dashes e =
      let parts = and_parts (nat_le n 6 && signed) (is_dash_run t) e in
      let few = and_parts (nat_le n 6) signed parts.0 in
      at t refl parts.1
    where
      at : (r : List ℕ) → t ≡ r → is_dash_run r ≡ true → Announces t n signed
      at [] f run = absurd (true≢false (sym run))
      at (c ∷ cs) f run = by_dashes (ap (list_all is_dash) f ∙ run) (omega (arith, ap length f))
          (leb-true n 6 (and_parts (nat_le n 6) signed (and_parts (nat_le n 6 && signed) (is_dash_run t) e).0).0)
          (and_parts (nat_le n 6) signed (and_parts (nat_le n 6 && signed) (is_dash_run t) e).0).1

  of_parameter : ((nat_le n 20 && not signed) && is_alike t (codes ";ext=")) ≡ true → Announces t n signed
  of_parameter e =
      let parts = and_parts (nat_le n 20 && not signed) (is_alike t (codes ";ext=")) e in
      let few = and_parts (nat_le n 20) (not signed) parts.0 in
      by_parameter parts.1 (leb-true n 20 few.0) (not-true signed few.1)

  pub announced_of : announces (allowed n signed) t ≡ true → Announces t n signed
  announced_of h = elim (or_cases _ ((nat_le n 6 && signed) && is_dash_run t) h) [
    | inr e ↦ of_dashes e
    | inl e ↦ elim (or_cases _ (is_led is_blank (is_paused (allowed n signed)) t) e) [
      | inr e ↦ of_paused (led_parts is_blank (is_paused (allowed n signed)) t e)
      | inl e ↦ elim (or_cases _ (is_led is_lead (is_named (allowed n signed)) t) e) [
        | inr e ↦ of_named (led_parts is_lead (is_named (allowed n signed)) t e)
        | inl e ↦ of_parameter e
      ]
    ]
  ]
