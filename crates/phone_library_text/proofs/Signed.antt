-- The walk along what follows a number's plus signs says whether the text is signed digits; and so is each front of such a text that has all its digits.
use Rattle.std.proofs.Common.{◌≡◌, ◌↔◌, ℕ, ◌-◌, ◌==◌, ◌&&◌, ◌||◌, Bool, true, false, inl, inr, List, [], ◌∷◌, ◌++◌, refl, ap, sym, ◌∙◌, eqb-true, true≢false}
use Rattle.std.proofs.lemmas.Bool.{and_from, and_parts, and_left, cases_Bool, cond-false, cond-true, false_from_ne_true, or_cases, or_parts, or_right}
use Rattle.std.specs.List.{list_all, list_any}
use Rattle.ucd_category.proofs.Computing.{ucd_category}
use Rattle.phone_chars.specs.Characters.{is_nd, is_plus}
use Rattle.phone_chars.specs.Cuts.{front, after_front}
use Rattle.phone_chars.proofs.Runs.{front-append-after_front}
use Rattle.phone_chars.proofs.Signed.{all_front}
use Rattle.phone_chars.proofs.Walks.{walk, finds_of_walk, walk_of_finds}
use Rattle.phone_library_text.specs.Letters.{is_allowed, is_early, is_latin}
use Rattle.phone_library_text.specs.Viable.{IsSignedDigits}

pub nd_early : (c : ℕ) → is_nd c ≡ true → is_early c ≡ true
nd_early c e = or_right _ _ e

abbrev pub number_walk : ℕ → List ℕ → Bool
number_walk n t = walk is_nd is_early is_latin nd_early n t

plus_apart : is_allowed 43 ≡ false
unfolding ucd_category
plus_apart = refl

wide_plus_apart : is_allowed 0xFF0B ≡ false
unfolding ucd_category
wide_plus_apart = refl

no_plus_allowed : (c : ℕ) → is_allowed c ≡ true → is_plus c ≡ false
no_plus_allowed c h = false_from_ne_true _ (λ p. elim (or_cases (43 == c) _ p) [
  | inl e ↦ true≢false (sym h ∙ ap is_allowed (sym (eqb-true 43 c e)) ∙ plus_apart)
  | inr e ↦ elim (or_cases (0xFF0B == c) _ e) [
    | inl e ↦ true≢false (sym h ∙ ap is_allowed (sym (eqb-true 0xFF0B c e)) ∙ wide_plus_apart)
    | inr e ↦ true≢false (sym e)
  ]
])

-- plus signs before a text of allowed characters are all the plus signs at its front
after_plus : (signs body : List ℕ) → list_all is_plus signs ≡ true → list_all is_allowed body ≡ true → after_front is_plus (signs ++ body) ≡ body
after_plus [] [] s b = refl
after_plus [] (c ∷ cs) s b = cond-false _ _ _ (no_plus_allowed c (and_parts (is_allowed c) _ b).0)
after_plus (c ∷ cs) body s b =
    let both = and_parts (is_plus c) (list_all is_plus cs) s in cond-true _ _ _ both.0 ∙ after_plus cs body both.1 b

pub signed_of_walk : (t : List ℕ) → number_walk 3 (after_front is_plus t) ≡ true → IsSignedDigits t
signed_of_walk t h =
    let f = finds_of_walk is_nd is_early is_latin nd_early 3 (after_front is_plus t) h in
    record {
      plus_signs = front is_plus t;
      body = after_front is_plus t;
      whole = sym (front-append-after_front is_plus t);
      only_plus_signs = all_front is_plus t;
      only_allowed = f.allowed;
      three_digits = f.digits;
      no_early_letter = f.no_early_letter;
    }

pub walk_of_signed : (t : List ℕ) → IsSignedDigits t → number_walk 3 (after_front is_plus t) ≡ true
walk_of_signed t s =
    ap (λ t. number_walk 3 (after_front is_plus t)) s.whole ∙ ap (number_walk 3) (after_plus s.plus_signs s.body s.only_plus_signs s.only_allowed)
    ∙ walk_of_finds is_nd is_early is_latin nd_early 3 s.body (record {
      allowed = s.only_allowed;
      digits = s.three_digits;
      no_early_letter = s.no_early_letter;
    })

pub signed_iff : (t : List ℕ) (answer : Bool) → number_walk 3 (after_front is_plus t) ≡ answer → (answer ≡ true) ↔ IsSignedDigits t
signed_iff t answer e = (λ h. signed_of_walk t (e ∙ h), λ s. sym e ∙ walk_of_signed t s)

-- a character that may not stand ends the walk
pub walk_stopped : (n c : ℕ) (cs : List ℕ) → is_nd c ≡ false → (is_early c || ((n == 0) && is_latin c)) ≡ false → number_walk n (c ∷ cs) ≡ false
walk_stopped n c cs d h = cond-false _ _ _ d ∙ and_left _ _ h

-- without digits there are none to be counted
none_counted : (n : ℕ) (t : List ℕ) → list_any is_nd t ≡ false → number_walk n t ≡ true → (n == 0) ≡ true
none_counted n [] none h = h
none_counted n (c ∷ cs) none h =
    let parts = or_parts (is_nd c) (list_any is_nd cs) none in
    none_counted n cs parts.1 (and_parts (is_early c || ((n == 0) && is_latin c)) (number_walk n cs) (sym (cond-false _ _ _ parts.0) ∙ h)).1

-- so what has none may be left away at the end
walk_front : (n : ℕ) (a b : List ℕ) → list_any is_nd b ≡ false → number_walk n (a ++ b) ≡ true → number_walk n a ≡ true
walk_front n [] b none h = none_counted n b none h
walk_front n (c ∷ cs) b none h = elim (cases_Bool (is_nd c)) [
  | inl d ↦ cond-true _ _ _ d ∙ walk_front (n - 1) cs b none (sym (cond-true _ _ _ d) ∙ h)
  | inr d ↦ let both = and_parts (is_early c || ((n == 0) && is_latin c)) (number_walk n (cs ++ b)) (sym (cond-false _ _ _ d) ∙ h) in
      cond-false _ _ _ d ∙ and_from _ _ both.0 (walk_front n cs b none both.1)
]

none_after : (t : List ℕ) → list_any is_nd t ≡ false → list_any is_nd (after_front is_plus t) ≡ false
none_after [] none = refl
none_after (c ∷ cs) none = elim (cases_Bool (is_plus c)) [
  | inl p ↦ ap (list_any is_nd) (cond-true _ _ _ p) ∙ none_after cs (or_parts (is_nd c) (list_any is_nd cs) none).1
  | inr p ↦ ap (list_any is_nd) (cond-false _ _ _ p) ∙ none
]

plus_walk : (a b : List ℕ) → list_any is_nd b ≡ false → number_walk 3 (after_front is_plus (a ++ b)) ≡ true → number_walk 3 (after_front is_plus a) ≡ true
plus_walk [] b none h = absurd (true≢false (sym (none_counted 3 (after_front is_plus b) (none_after b none) h)))
plus_walk (c ∷ cs) b none h = elim (cases_Bool (is_plus c)) [
  | inl p ↦ ap (number_walk 3) (cond-true _ _ _ p) ∙ plus_walk cs b none (ap (number_walk 3) (sym (cond-true _ _ _ p)) ∙ h)
  | inr p ↦ ap (number_walk 3) (cond-false _ _ _ p) ∙ walk_front 3 (c ∷ cs) b none (ap (number_walk 3) (sym (cond-false _ _ _ p)) ∙ h)
]

pub signed_front : (a b : List ℕ) → list_any is_nd b ≡ false → IsSignedDigits (a ++ b) → IsSignedDigits a
signed_front a b none s = signed_of_walk a (plus_walk a b none (walk_of_signed (a ++ b) s))
