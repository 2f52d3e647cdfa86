-- What ends a text after an indicator has one cut.
use Rattle.std.proofs.Common.{Bor, ◌⊎◌, inl, inr, ⊎_elim, zero, suc, ◌<◌, nat_le, map, take, get_or, leb-true, ◌≡◌, ℕ, ◌≤◌, ◌==◌, Bool, true, false, not, ◌&&◌, ◌||◌, List, [], ◌∷◌, ◌++◌, length, Some, None, codes, eqb-true, refl, ap, sym, subst, ◌∙◌, true≢false, arith, append-nil}
use Rattle.std.proofs.lemmas.Bool.{and_parts, false_from_ne_true, le-leb, not-true, or_left, or_right}
use Rattle.std.specs.List.{list_any, list_all}
use Rattle.std.specs.Str.{chars}
use Rattle.ucd_category.proofs.Computing.{ucd_category}
use Rattle.phone_chars.specs.Characters.{is_nd, is_one_of}
use Rattle.phone_chars.specs.Cuts.{front, after_front}
use Rattle.phone_parts.specs.Suffixes.{IsAnnounced, IsOptional, IsDigits, IsEnding, IsParameter, IsNumberSigned, is_mark, is_gap, is_sign, is_dash}
use Rattle.phone_parts.specs.Texts.{begins, after_one, after_like, is_like}
use Rattle.phone_parts.proofs.Likes.{after_like_front, after_like_parts}
use Rattle.phone_parts.proofs.Runs.{all_in_front, run_whole, front_of_run, after_front_of_run}

-- what holds of each member holds of what is one
pub member_passes : (q : ℕ → Bool) (members : List ℕ) (c : ℕ) → list_all q members ≡ true → is_one_of members c ≡ true → q c ≡ true
member_passes q [] c all e = absurd (true≢false (sym e))
member_passes q (m ∷ ms) c all e = at_head (m == c) refl (and_parts (q m) (list_all q ms) all) e (member_passes q ms c)
  where
    at_head : (b : Bool) → (m == c) ≡ b → (q m ≡ true) × (list_all q ms ≡ true) → (b || is_one_of ms c) ≡ true →
        (list_all q ms ≡ true → is_one_of ms c ≡ true → q c ≡ true) → q c ≡ true
    at_head true f parts g h = ap q (sym (eqb-true m c f)) ∙ parts.0
    at_head false f parts g h = h parts.1 g

-- no character is in both sets
abbrev pub AreApart : (ℕ → Bool) → (ℕ → Bool) → Type 0
AreApart p q = (c : ℕ) → q c ≡ true → p c ≡ false

pub members_apart : (p : ℕ → Bool) (members : List ℕ) → list_all (λ c. not (p c)) members ≡ true → AreApart p (is_one_of members)
members_apart p members all c e = not-true (p c) (member_passes (λ x. not (p x)) members c all e)

pub apart_members : (q : ℕ → Bool) (members : List ℕ) → list_all (λ c. not (q c)) members ≡ true → AreApart (is_one_of members) q
apart_members q members all c e =
    false_from_ne_true (is_one_of members c) (λ f. true≢false (sym e ∙ not-true (q c) (member_passes (λ x. not (q x)) members c all f)))

mark_gap : AreApart is_mark is_gap
mark_gap = members_apart is_mark (32 ∷ 0xA0 ∷ 9 ∷ 44 ∷ 45 ∷ []) refl

pub mark_nd : AreApart is_mark is_nd
unfolding ucd_category
mark_nd = apart_members is_nd (58 ∷ 46 ∷ 0xFF0E ∷ []) refl

pub gap_nd : AreApart is_gap is_nd
unfolding ucd_category
gap_nd = apart_members is_nd (32 ∷ 0xA0 ∷ 9 ∷ 44 ∷ 45 ∷ []) refl

pub dash_nd : AreApart is_dash is_nd
unfolding ucd_category
dash_nd = apart_members is_nd (45 ∷ 32 ∷ []) refl

pub is_35 : (c : ℕ) → is_sign c ≡ true → c ≡ 35
is_35 c e = eqb-true c 35 e

mark_sign : AreApart is_mark is_sign
mark_sign c e = ap is_mark (is_35 c e)

gap_sign : AreApart is_gap is_sign
gap_sign c e = ap is_gap (is_35 c e)

pub nd_35 : is_nd 35 ≡ false
unfolding ucd_category
nd_35 = refl

pub nd_sign : AreApart is_nd is_sign
nd_sign c e = ap is_nd (is_35 c e) ∙ nd_35

-- a run of a set apart, and what doesn't begin with a member, doesn't
pub none_at_run : (p q : ℕ → Bool) → AreApart p q → (run rest : List ℕ) → list_all q run ≡ true → begins p rest ≡ false → begins p (run ++ rest) ≡ false
none_at_run p q apart [] rest all none = none
none_at_run p q apart (x ∷ run) rest all none = apart x (and_parts (q x) (list_all q run) all).0

pub none_at_all : (p q : ℕ → Bool) → AreApart p q → (run : List ℕ) → list_all q run ≡ true → begins p run ≡ false
none_at_all p q apart [] all = refl
none_at_all p q apart (x ∷ run) all = apart x (and_parts (q x) (list_all q run) all).0

-- an optional character
pub after_optional : (p : ℕ → Bool) (t rest : List ℕ) → IsOptional p t → begins p rest ≡ false → after_one p (t ++ rest) ≡ rest
after_optional p [] [] h none = refl
after_optional p [] (y ∷ rest) h none = rw none
after_optional p (x ∷ []) rest h none = rw (and_parts (p x) true h.only).0
after_optional p (x ∷ y ∷ t) rest h none = absurd (omega (arith, h.few))

pub record HasOptional (p : ℕ → Bool) (text rest : List ℕ) : Type 0 where
  pub one : List ℕ
  pub whole : text ≡ one ++ rest
  pub optional : IsOptional p one

pub optional_of : (p : ℕ → Bool) (text : List ℕ) → HasOptional p text (after_one p text)
optional_of p [] = record { one = []; whole = refl; optional = record { only = refl; few = omega arith } }
optional_of p (c ∷ cs) = at_head (p c) refl
  where
    at_head : (b : Bool) → p c ≡ b → HasOptional p (c ∷ cs) (after_one p (c ∷ cs))
    at_head true e = rw e (record { one = c ∷ []; whole = refl; optional = record { only = rw e; few = omega arith } })
    at_head false e = rw e (record { one = []; whole = refl; optional = record { only = refl; few = omega arith } })

-- the parts of an ending
pub record EndingCut (found end w : List ℕ) : Type 0 where
  pub digits : found ≡ front is_nd (after_front is_gap (after_one is_mark w))
  pub sign : end ≡ after_front is_nd (after_front is_gap (after_one is_mark w))

pub ending_cut : (w d : List ℕ) (h : IsEnding w d) → EndingCut d h.sign w
ending_cut w d h =
    let nd_at_sign : begins is_nd h.sign ≡ false = none_at_all is_nd is_sign nd_sign h.sign h.signs.only in
    let gap_at_digits : begins is_gap (d ++ h.sign) ≡ false =
    none_at_run is_gap is_nd gap_nd d h.sign h.digits.only (none_at_all is_gap is_sign gap_sign h.sign h.signs.only) in
    let mark_at_digits : begins is_mark (d ++ h.sign) ≡ false =
    none_at_run is_mark is_nd mark_nd d h.sign h.digits.only (none_at_all is_mark is_sign mark_sign h.sign h.signs.only) in
    let mark_at_gap : begins is_mark (h.gap ++ (d ++ h.sign)) ≡ false = none_at_run is_mark is_gap mark_gap h.gap (d ++ h.sign) h.gaps mark_at_digits in
    let unmarked : after_one is_mark w ≡ h.gap ++ (d ++ h.sign) = ap (after_one is_mark) h.whole ∙ after_optional is_mark h.mark _ h.marks mark_at_gap in
    let from : after_front is_gap (after_one is_mark w) ≡ d ++ h.sign =
    ap (after_front is_gap) unmarked ∙ after_front_of_run is_gap h.gap (d ++ h.sign) h.gaps gap_at_digits in
    record {
      digits = sym (ap (front is_nd) from ∙ front_of_run is_nd d h.sign h.digits.only nd_at_sign);
      sign = sym (ap (after_front is_nd) from ∙ after_front_of_run is_nd d h.sign h.digits.only nd_at_sign);
    }

pub after_sign : (sign : List ℕ) → IsOptional is_sign sign → after_one is_sign sign ≡ []
after_sign sign h = ap (after_one is_sign) (sym (append-nil sign)) ∙ after_optional is_sign sign [] h refl

-- the parts of an extension with a number sign behind its digits
pub record NumberSignedCut (lead digits end w : List ℕ) : Type 0 where
  pub dashes : lead ≡ front is_dash w
  pub middle : digits ≡ front is_nd (after_front is_dash w)
  pub back : end ≡ after_front is_nd (after_front is_dash w)

pub number_signed_cut : (w d : List ℕ) (h : IsNumberSigned w d) → NumberSignedCut h.lead d (35 ∷ []) w
number_signed_cut w d h =
    let dash_at_digits : begins is_dash (d ++ 35 ∷ []) ≡ false = none_at_run is_dash is_nd dash_nd d (35 ∷ []) h.digits.only refl in
    let rest : after_front is_dash w ≡ d ++ 35 ∷ [] = ap (after_front is_dash) h.whole ∙ after_front_of_run is_dash h.lead (d ++ 35 ∷ []) h.leads dash_at_digits in
    record {
      dashes = sym (ap (front is_dash) h.whole ∙ front_of_run is_dash h.lead (d ++ 35 ∷ []) h.leads dash_at_digits);
      middle = sym (ap (front is_nd) rest ∙ front_of_run is_nd d (35 ∷ []) h.digits.only nd_35);
      back = sym (ap (after_front is_nd) rest ∙ after_front_of_run is_nd d (35 ∷ []) h.digits.only nd_35);
    }

-- the test of digits
pub digits_test : (n : ℕ) (d : List ℕ) → IsDigits n d → (list_all is_nd d && nat_le (length d) n) ≡ true
digits_test n d h = rw h.only (le-leb (length d) n h.few)

pub digits_of_test : (n : ℕ) (d : List ℕ) → (list_all is_nd d && nat_le (length d) n) ≡ true → IsDigits n d
digits_of_test n d e = let parts = and_parts (list_all is_nd d) (nat_le (length d) n) e in record { only = parts.0; few = leb-true (length d) n parts.1 }

-- an ending's parts, put together
pub ending_of : (w d sign : List ℕ) → d ≡ front is_nd (after_front is_gap (after_one is_mark w)) → sign ≡ after_front is_nd (after_front is_gap (after_one is_mark w)) →
    after_one is_sign sign ≡ [] → IsDigits 7 d → IsEnding w d
ending_of w d sign e f empty digits =
    let unmarked = after_one is_mark w in
    let m = optional_of is_mark w in
    let s = optional_of is_sign sign in
    let one : sign ≡ s.one = s.whole ∙ ap (λ t. s.one ++ t) empty ∙ append-nil s.one in
    record {
      mark = m.one;
      gap = front is_gap unmarked;
      sign = sign;
      whole = m.whole ∙ ap (λ t. m.one ++ t) (run_whole is_gap unmarked _ _ refl refl ∙ ap (λ t. front is_gap unmarked ++ t) (run_whole is_nd (after_front is_gap unmarked) d sign e f));
      marks = m.optional;
      gaps = all_in_front is_gap unmarked;
      digits = digits;
      signs = subst (IsOptional is_sign) (sym one) s.optional;
    }

abbrev pub texts_of : List (Bor (List ℕ)) → List (List ℕ)
texts_of words = map (λ (w : Bor (List ℕ)). chars w.now) words

any_at : (q : List ℕ → Bool) (words : List (Bor (List ℕ))) (i : ℕ) (other : Bor (List ℕ)) → i < length words →
    q (chars (get_or words i other).now) ≡ true → list_any q (texts_of words) ≡ true
any_at q [] i other less h = absurd (omega arith)
any_at q (w ∷ ws) zero other less h = or_left (q (chars w.now)) _ h
any_at q (w ∷ ws) (suc i) other less h = or_right (q (chars w.now)) _ (any_at q ws i other (omega arith) h)

-- with one word alone
only_word : (a : Bool) → (a || false) ≡ true → a ≡ true
only_word true e = refl
only_word false e = e

pub announced_in : (words : List (Bor (List ℕ))) (i : ℕ) (other : Bor (List ℕ)) (t d : List ℕ) → i < length words →
    IsAnnounced (chars (get_or words i other).now ∷ []) t d → IsAnnounced (texts_of words) t d
announced_in words i other t d less h = record {
  word = h.word;
  ending = h.ending;
  whole = h.whole;
  announces = any_at (is_like h.word) words i other less (only_word (is_like h.word (chars (get_or words i other).now)) h.announces);
  ends = h.ends;
}

any_of_more : (q : List ℕ → Bool) (words : List (Bor (List ℕ))) (i : ℕ) (other : Bor (List ℕ)) → list_any q (texts_of (take (suc i) words)) ≡ true →
    (list_any q (texts_of (take i words)) ≡ true) ⊎ (list_any q (chars (get_or words i other).now ∷ []) ≡ true)
any_of_more q [] i other h = absurd (true≢false (sym h))
any_of_more q (w ∷ ws) zero other h = inr h
any_of_more q (w ∷ ws) (suc i) other h = at_head (q (chars w.now)) refl h (any_of_more q ws i other)
  where
    at_head : (b : Bool) → q (chars w.now) ≡ b → (b || list_any q (texts_of (take (suc i) ws))) ≡ true →
        (list_any q (texts_of (take (suc i) ws)) ≡ true → (list_any q (texts_of (take i ws)) ≡ true) ⊎ (list_any q (chars (get_or ws i other).now ∷ []) ≡ true)) →
        (list_any q (texts_of (take (suc i) (w ∷ ws))) ≡ true) ⊎ (list_any q (chars (get_or (w ∷ ws) (suc i) other).now ∷ []) ≡ true)
    at_head true e f g = inl (ap (λ b. b || list_any q (texts_of (take i ws))) e)
    at_head false e f g = ⊎_elim (λ x. inl (rw e x)) (λ y. inr y) (g f)

pub none_of_more : (words : List (Bor (List ℕ))) (i : ℕ) (other : Bor (List ℕ)) (t : List ℕ) → ((d : List ℕ) → ¬ (IsAnnounced (texts_of (take i words)) t d)) →
    ((d : List ℕ) → ¬ (IsAnnounced (chars (get_or words i other).now ∷ []) t d)) → (d : List ℕ) → ¬ (IsAnnounced (texts_of (take (suc i) words)) t d)
none_of_more words i other t before here d h =
    ⊎_elim
    (λ e. before d (record { word = h.word; ending = h.ending; whole = h.whole; announces = e; ends = h.ends }))
    (λ e. here d (record { word = h.word; ending = h.ending; whole = h.whole; announces = e; ends = h.ends }))
    (any_of_more (is_like h.word) words i other h.announces)

pub chars_parameter : chars (codes ";ext=") ≡ codes ";ext="
unfolding chars
chars_parameter = refl

pub parameter_cut : (w d : List ℕ) → IsParameter w d → after_like w (codes ";ext=") ≡ Some d
parameter_cut w d h = ap (λ t. after_like t (codes ";ext=")) h.whole ∙ after_like_front h.name (codes ";ext=") d h.named

pub length_some : (t : List ℕ) → ¬ (t ≡ []) → 1 ≤ length t
length_some [] h = absurd (h refl)
length_some (x ∷ t) h = omega arith

pub number_signed_of : (w lead d end : List ℕ) → lead ≡ front is_dash w → d ≡ front is_nd (after_front is_dash w) → end ≡ after_front is_nd (after_front is_dash w) →
    end ≡ 35 ∷ [] → ¬ (lead ≡ []) → ¬ (d ≡ []) → IsDigits 5 d → IsNumberSigned w d
number_signed_of w lead d end e f g sign some_lead some_digits digits =
    let rest = after_front is_dash w in
    record {
      lead = lead;
      whole = run_whole is_dash w lead rest e refl ∙ ap (λ t. lead ++ t) (run_whole is_nd rest d end f g ∙ ap (λ t. d ++ t) sign);
      leads = rw e (all_in_front is_dash w);
      some_lead = length_some lead some_lead;
      digits = digits;
      some_digits = length_some d some_digits;
    }

word_cut : (text word d : List ℕ) (h : IsAnnounced (word ∷ []) text d) → after_like text word ≡ Some h.ending
word_cut text word d h =
    ap (λ t. after_like t word) h.whole ∙ after_like_front h.word word h.ending (only_word (is_like h.word word) h.announces)

pub after_announced : (text word rest d : List ℕ) → after_like text word ≡ Some rest → IsAnnounced (word ∷ []) text d → IsEnding rest d
after_announced text word rest d e h =
    let found = word_cut text word d h in
    let same : h.ending ≡ rest = cc in
    subst (λ t. IsEnding t d) same h.ends

pub not_announced : (text word d : List ℕ) → after_like text word ≡ None → ¬ (IsAnnounced (word ∷ []) text d)
not_announced text word d e h = let found = word_cut text word d h in cc

pub announced_of : (text word rest d : List ℕ) → after_like text word ≡ Some rest → IsEnding rest d → IsAnnounced (word ∷ []) text d
announced_of text word rest d e h =
    let parts = after_like_parts text word rest e in
    record { word = parts.name; ending = rest; whole = parts.whole; announces = rw parts.like; ends = h }
