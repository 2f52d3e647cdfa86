-- The walk along the text that follows a number's plus signs says whether the text is viable.
use Rattle.std.proofs.Common.{◌≡◌, ◌↔◌, ℕ, ◌==◌, ◌&&◌, ◌||◌, Bool, true, false, inl, inr, List, [], ◌∷◌, ◌++◌, refl, ap, sym, subst, ◌∙◌, eqb-true}
use Rattle.std.proofs.lemmas.Bool.{and_from, and_parts, and_left, or_cases, or_parts, or_from, or_right, cond-false, cond-true, cond_both, false≢true, false_from_ne_true}
use Rattle.std.specs.List.{list_all}
use Rattle.phone_chars.specs.Characters.{is_alpha, is_digit, is_plus, is_punctuation, is_star}
use Rattle.phone_chars.specs.Cuts.{front, after_front}
use Rattle.phone_chars.specs.Viable.{is_early, is_allowed, IsSignedDigits}
use Rattle.phone_chars.proofs.Runs.{front-append-after_front}
use Rattle.phone_chars.proofs.Walks.{walk, finds_of_walk, walk_of_finds}

pub digit_is_early : (c : ℕ) → is_digit c ≡ true → is_early c ≡ true
digit_is_early c d = or_right _ _ d

abbrev pub number_walk : ℕ → List ℕ → Bool
number_walk n t = walk is_digit is_early is_alpha digit_is_early n t

no_plus_allowed : (c : ℕ) → is_allowed c ≡ true → is_plus c ≡ false
no_plus_allowed c h = false_from_ne_true _ (λ p. elim (or_cases (43 == c) _ p) [
  | inl e ↦ plus_sign c (eqb-true 43 c e) h
  | inr e ↦ elim (or_cases (0xFF0B == c) _ e) [
    | inl e ↦ wide_plus_sign c (eqb-true 0xFF0B c e) h
    | inr e ↦ absurd (false≢true e)
  ]
])
  where
    plus_sign : (c : ℕ) → 43 ≡ c → is_allowed c ≡ true → ⊥
    plus_sign c e h = false≢true (subst (λ c. is_allowed c ≡ true) (sym e) h)

    wide_plus_sign : (c : ℕ) → 0xFF0B ≡ c → is_allowed c ≡ true → ⊥
    wide_plus_sign c e h = false≢true (subst (λ c. is_allowed c ≡ true) (sym e) h)

pub all_front : (p : ℕ → Bool) (cs : List ℕ) → list_all p (front p cs) ≡ true
all_front p [] = refl
all_front p (c ∷ cs) = cond_both (p c) (c ∷ front p cs) [] (λ ds. list_all p ds ≡ true) (λ h. and_from _ _ h (all_front p cs)) (λ h. refl)

-- plus signs before a text of allowed characters are all the plus signs at its front
pub after_front-append : (signs body : List ℕ) → list_all is_plus signs ≡ true → list_all is_allowed body ≡ true → after_front is_plus (signs ++ body) ≡ body
after_front-append [] [] s b = refl
after_front-append [] (c ∷ cs) s b = cond-false _ _ _ (no_plus_allowed c (and_parts (is_allowed c) _ b).0)
after_front-append (c ∷ cs) body s b =
    let both = and_parts (is_plus c) (list_all is_plus cs) s in cond-true _ _ _ both.0 ∙ after_front-append cs body both.1 b

pub signed_of_walk : (t : List ℕ) → number_walk 3 (after_front is_plus t) ≡ true → IsSignedDigits t
signed_of_walk t h =
    let f = finds_of_walk is_digit is_early is_alpha digit_is_early 3 (after_front is_plus t) h in
    record {
      signs = front is_plus t;
      body = after_front is_plus t;
      whole = sym (front-append-after_front is_plus t);
      only_signs = all_front is_plus t;
      only_allowed = f.allowed;
      three_digits = f.digits;
      no_early_letter = f.no_early_letter;
    }

pub walk_of_signed : (t : List ℕ) → IsSignedDigits t → number_walk 3 (after_front is_plus t) ≡ true
walk_of_signed t s =
    ap (λ t. number_walk 3 (after_front is_plus t)) s.whole ∙ ap (number_walk 3) (after_front-append s.signs s.body s.only_signs s.only_allowed)
    ∙ walk_of_finds is_digit is_early is_alpha digit_is_early 3 s.body (record {
      allowed = s.only_allowed;
      digits = s.three_digits;
      no_early_letter = s.no_early_letter;
    })

pub signed_iff : (t : List ℕ) (answer : Bool) → number_walk 3 (after_front is_plus t) ≡ answer → (answer ≡ true) ↔ IsSignedDigits t
signed_iff t answer e = (λ h. signed_of_walk t (e ∙ h), λ s. sym e ∙ walk_of_signed t s)

-- a character that may not stand ends the walk
pub walk_stopped : (n c : ℕ) (cs : List ℕ) → is_digit c ≡ false →
    (is_punctuation c || is_star c || ((n == 0) && is_alpha c)) ≡ false → number_walk n (c ∷ cs) ≡ false
walk_stopped n c cs d h =
    let parts = or_parts (is_punctuation c || is_star c) ((n == 0) && is_alpha c) h in
    let early : is_early c ≡ false = or_from _ _ parts.0 d in
    cond-false _ _ _ d ∙ and_left _ _ (or_from _ _ early parts.1)
