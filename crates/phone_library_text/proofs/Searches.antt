-- What the search for the longest announcement has found so far, from the last character on.
use Rattle.std.proofs.Common.{◌≡◌, ⊎_elim, ℕ, ◌+◌, ◌==◌, ◌≤◌, ◌<◌, true, false, Bor, Option, Some, None, MatchOption, List, [], ◌∷◌, ◌++◌, IsUtf8, encode_utf8, length, length-append, append_assoc, eqb-true, refl, ap, ap₂, sym, subst, ◌∙◌, true≢false, arith}
use Rattle.std.proofs.lemmas.Bool.{and_parts, cases_lt, false_from_ne_true, or_from, or_right, or_left, and_right}
use Rattle.std.proofs.lemmas.List.{append_cancel_left, nil_from_length}
use Rattle.std.proofs.lemmas.List.Folds.{list_any-append}
use Rattle.std.proofs.lemmas.Str.{chars-append}
use Rattle.std.specs.List.{list_all, list_any}
use Rattle.std.specs.Str.{chars}
use Rattle.ucd_case.proofs.Computing.{ucd_case}
use Rattle.phone_chars.specs.Characters.{is_nd, is_one_of}
use Rattle.phone_parts.specs.Longest.{IsWithoutLongest}
use Rattle.phone_parts.specs.Texts.{begins}
use Rattle.phone_parts.proofs.Longest.{cuts_meet, end_same}
use Rattle.phone_library_text.specs.Announcements.{pauses, signs, words}
use Rattle.phone_library_text.specs.Letters.{folded}
use Rattle.phone_library_text.specs.Scans.{announces, announces_seen, follows_some, is_named, is_paused, label_starts, pause_starts, seen_before, seen_in}
use Rattle.phone_library_text.specs.declared.announcement.Allowed.{Allowed}
use Rattle.phone_library_text.specs.declared.announcement.Seen.{Seen}

-- nothing is no announcement
pub nothing_announced : (a : Allowed) → announces a [] ≡ false
nothing_announced a = or_from _ _ (or_from _ _ (or_from _ _ (and_right a.parameter _ refl) (or_from _ _ (and_right a.words _ refl) (and_right a.signs _ refl)))
    (or_from _ _ (and_right a.pauses _ refl) (and_right a.commas _ refl))) (and_right a.dashes _ refl)

pub nothing_named : (a : Allowed) → is_named a [] ≡ false
nothing_named a = or_from _ _ (and_right a.words _ refl) (and_right a.signs _ refl)

pub nothing_paused : (a : Allowed) → is_paused a [] ≡ false
nothing_paused a = or_from _ _ (and_right a.pauses _ refl) (and_right a.commas _ refl)

-- one character further
pub seen_further : (a : Allowed) (c : ℕ) (w : List ℕ) → seen_in a (c ∷ w) ≡ seen_before a (seen_in a w) c (c ∷ w)
seen_further a c w = refl

pub announces_further : (a : Allowed) (c : ℕ) (w : List ℕ) → announces a (c ∷ w) ≡ announces_seen a (seen_in a (c ∷ w)) (c ∷ w)
announces_further a c w = refl

-- of the ends of a text that begin at n or later, the longest of a kind, where one is
module _ (Kind : List ℕ → Type 0) (text : List ℕ) where
  pub record IsFoundFrom (n : ℕ) (front : List ℕ) : Type 0 where
    pub end : List ℕ
    pub whole : text ≡ front ++ end
    pub kind : Kind end
    pub longest : (before other : List ℕ) → text ≡ before ++ other → Kind other → n ≤ length before → length front ≤ length before

  abbrev pub FoundFrom : ℕ → Option (Bor (List ℕ)) → Type 0
  FoundFrom n found = MatchOption found
      ((before other : List ℕ) → text ≡ before ++ other → n ≤ length before → ¬ (Kind other))
      (λ f. IsFoundFrom n (chars f.now))

  abbrev pub Found : Option (Bor (List ℕ)) → Type 0
  Found found = MatchOption found
      ((before other : List ℕ) → text ≡ before ++ other → ¬ (Kind other))
      (λ f. IsWithoutLongest Kind text (chars f.now))

  -- where no end that begins earlier is one, it is found
  pub found_all : (n : ℕ) (found : Option (Bor (List ℕ))) → FoundFrom n found →
      ((before other : List ℕ) → text ≡ before ++ other → length before < n → ¬ (Kind other)) → Found found
  found_all n None h none = λ before other e k.
      ⊎_elim
      (λ (less : length before < n). none before other e less k)
      (λ (more : n ≤ length before). h before other e more k)
      (cases_lt (length before) n)
  found_all n (Some f) h none = record {
    end = h.end;
    whole = h.whole;
    kind = h.kind;
    longest = λ before other e k.
        ⊎_elim
        (λ (less : length before < n). absurd (none before other e less k))
        (λ (more : n ≤ length before). h.longest before other e k more)
        (cases_lt (length before) n);
  }

  -- an end that begins one character earlier and is none changes nothing
  pub found_further : (front rest : List ℕ) (n : ℕ) (found : Option (Bor (List ℕ))) → text ≡ front ++ rest → n ≡ length front → ¬ (Kind rest) →
      (m : ℕ) → m ≤ n + 1 → FoundFrom m found → FoundFrom n found
  found_further front rest n None whole size none m le h = λ before other e more k.
      ⊎_elim
      (λ (less : length before < m).
      let same : rest ≡ other = end_same front rest before other (sym whole ∙ e) (omega (arith, size, less, le, more)) in
      none (subst Kind (sym same) k))
      (λ (far : m ≤ length before). h before other e far k)
      (cases_lt (length before) m)
  found_further front rest n (Some f) whole size none m le h = record {
    end = h.end;
    whole = h.whole;
    kind = h.kind;
    longest = λ before other e k more.
        ⊎_elim
        (λ (less : length before < m).
        let same : rest ≡ other = end_same front rest before other (sym whole ∙ e) (omega (arith, size, less, le, more)) in
        absurd (none (subst Kind (sym same) k)))
        (λ (far : m ≤ length before). h.longest before other e k far)
        (cases_lt (length before) m);
  }

  -- and one that is, is the longest
  pub found_here : (front rest : List ℕ) (n : ℕ) → text ≡ front ++ rest → n ≡ length front → Kind rest → IsFoundFrom n front
  found_here front rest n whole size kind = record { end = rest; whole = whole; kind = kind; longest = λ before other e k more. omega (arith, size, more) }

  -- of the empty end alone
  pub found_none : (n : ℕ) → n ≡ length text → ¬ (Kind []) → (before other : List ℕ) → text ≡ before ++ other → n ≤ length before → ¬ (Kind other)
  found_none n size none before other e more k =
      let nil : other ≡ [] = nil_from_length other (omega (arith, size, more, ap length e, length-append before other)) in
      none (subst Kind nil k)

-- an end that begins before a digit has it
pub has_digit : (text front rest : List ℕ) (c : ℕ) → text ≡ front ++ c ∷ rest → is_nd c ≡ true → (before other : List ℕ) → text ≡ before ++ other →
    length before < length front + 1 → list_any is_nd other ≡ true
has_digit text front rest c whole digit before other e less =
    let m = cuts_meet front (c ∷ rest) before other (sym whole ∙ e) (omega (arith, less)) in
    ap (list_any is_nd) m.2 ∙ list_any-append is_nd m.0 (c ∷ rest) ∙ or_right (list_any is_nd m.0) _ (or_left _ _ digit)

-- no word follows that begins with another letter than the text
none_follows : (starts : List ℕ) (words : List (List ℕ)) (c : ℕ) (cs : List ℕ) → list_all (begins (λ w. is_one_of starts (folded w))) words ≡ true →
    is_one_of starts (folded c) ≡ false → follows_some words (c ∷ cs) ≡ false
none_follows starts [] c cs all none = refl
none_follows starts ([] ∷ ws) c cs all none = absurd (true≢false (sym all))
none_follows starts ((x ∷ xs) ∷ ws) c cs all none =
    let parts = and_parts (is_one_of starts (folded x)) (list_all (begins (λ w. is_one_of starts (folded w))) ws) all in
    let other : (folded c == folded x) ≡ false =
    false_from_ne_true (folded c == folded x) (λ e. true≢false (sym parts.0 ∙ ap (is_one_of starts) (sym (eqb-true (folded c) (folded x) e)) ∙ none)) in
    or_from _ _ (rw other refl) (none_follows starts ws c cs parts.1 none)

words_begin : list_all (begins (λ w. is_one_of label_starts (folded w))) words ≡ true
unfolding ucd_case
words_begin = refl

signs_begin : list_all (begins (λ w. is_one_of label_starts (folded w))) signs ≡ true
unfolding ucd_case
signs_begin = refl

pauses_begin : list_all (begins (λ w. is_one_of pause_starts (folded w))) pauses ≡ true
unfolding ucd_case
pauses_begin = refl

pub not_named : (a : Allowed) (c : ℕ) (cs : List ℕ) → is_one_of label_starts (folded c) ≡ false → is_named a (c ∷ cs) ≡ false
not_named a c cs none =
    or_from _ _ (and_right a.words _ (none_follows label_starts words c cs words_begin none)) (and_right a.signs _ (none_follows label_starts signs c cs signs_begin none))

pub no_pause : (c : ℕ) (cs : List ℕ) → is_one_of pause_starts (folded c) ≡ false → follows_some pauses (c ∷ cs) ≡ false
no_pause c cs none = none_follows pause_starts pauses c cs pauses_begin none

-- what is known of an end that is one character longer
pub seen_next : (a : Allowed) (s : Seen) (next : Seen) (c : ℕ) (w e : List ℕ) → s ≡ seen_in a w → e ≡ c ∷ w → next ≡ seen_before a s c e → next ≡ seen_in a (c ∷ w)
seen_next a s next c w e seen read told = told ∙ ap₂ (λ (s : Seen) t. seen_before a s c t) seen read

pub announces_next : (a : Allowed) (next : Seen) (c : ℕ) (w e : List ℕ) → next ≡ seen_in a (c ∷ w) → e ≡ c ∷ w → announces_seen a next e ≡ announces a e
announces_next a next c w e seen read = ap₂ (λ (s : Seen) t. announces_seen a s t) seen read ∙ ap (announces a) (sym read)

-- an end of a text that begins one character earlier
pub record IsEarlier (text front end : List ℕ) (c : ℕ) (w : List ℕ) : Type 0 where
  pub cut : text ≡ front ++ end
  pub read : chars text ≡ chars front ++ chars end
  pub characters : chars end ≡ c ∷ w

pub earlier : (text left v front end : List ℕ) (c : ℕ) (w : List ℕ) → IsUtf8 front → text ≡ left ++ v → chars text ≡ chars left ++ w →
    left ≡ front ++ encode_utf8 c → chars left ≡ chars front ++ c ∷ [] → ((u : List ℕ) → text ≡ front ++ u → end ≡ u) → IsEarlier text front end c w
earlier text left v front end c w utf8 whole read cut letters after =
    let split : text ≡ front ++ (encode_utf8 c ++ v) = whole ∙ ap (λ r. r ++ v) cut ∙ append_assoc front (encode_utf8 c) v in
    let parts : text ≡ front ++ end = split ∙ ap (λ r. front ++ r) (sym (after (encode_utf8 c ++ v) split)) in
    let both : chars text ≡ chars front ++ chars end = ap chars parts ∙ chars-append front end utf8 in
    record {
      cut = parts;
      read = both;
      characters = append_cancel_left (chars front) (chars end) (c ∷ w) (sym both ∙ read ∙ ap (λ r. r ++ w) letters ∙ append_assoc (chars front) (c ∷ []) w);
    }
