-- What is left of a number is valid, and a front of it.
use Rattle.std.proofs.Common.{◌≡◌, inl, inr, ◌⊎◌, ℕ, zero, suc, ◌+◌, ◌/◌, ◌%◌, ◌^◌, ◌<◌, ◌≤◌, ◌==◌, ◌&&◌, not, nat_le, Bool, true, false, if◌then◌else◌, List, [], ◌∷◌, ◌++◌, replicate, Option, None, Some, refl, ap, sym, subst, ◌∙◌, arith, append_assoc, true≢false}
use Rattle.std.proofs.lemmas.Bool.{and_parts, cond-true, eq-eqb}
use Rattle.std.proofs.lemmas.Fmt.{decimal_step}
use Rattle.std.proofs.lemmas.Option.{none-some, same_Some}
use Rattle.std.specs.Fmt.{decimal}
use Rattle.std.specs.List.{find}
use Rattle.phone_values.specs.Numbers.{National, text_of}
use Rattle.phone_values.specs.declared.kind.«Type».TheVariants.{Unknown}
use Rattle.phone_values.specs.declared.reading.Reading.{Reading}
use Rattle.phone_library.specs.Facts.{is_valid_number}
use Rattle.phone_records.specs.declared.loader.Metadata.{Metadata}
use Rattle.phone_questions.specs.Possible.{possibility_as}
use Rattle.phone_questions.specs.Truncation.{IsCutFrom, cut, cuts, is_left, is_too_short, shortened, truncated, with_national}

module _ {X : Type 0} (p : X → Bool) where
  -- what is found first, by whether it passes
  passes_by : (x t : X) (xs : List X) (here : Bool) → p x ≡ here → (find p xs ≡ Some t → p t ≡ true) →
      (if here then Some x else find p xs) ≡ Some t → p t ≡ true
  passes_by x t xs true e later h = ap p (sym (same_Some x t h)) ∙ e
  passes_by x t xs false e later h = later h

  pub find-passes : (xs : List X) (t : X) → find p xs ≡ Some t → p t ≡ true
  find-passes [] t h = absurd (none-some t h)
  find-passes (x ∷ xs) t h = passes_by x t xs (p x) refl (find-passes xs t) h

-- a value that leaves something has two digits at least
two_digits : (v : ℕ) → not (v / 10 == 0) ≡ true → 10 ≤ v
two_digits v h =
    let zero_if : v / 10 ≤ 0 → v / 10 ≡ 0 = λ e. omega (arith, e) in
    let some : ¬ (v / 10 ≤ 0) = λ e. true≢false (sym h ∙ ap not (eq-eqb (v / 10) 0 (zero_if e))) in
    omega (arith, some)

cut_text : (n : National) → 10 ≤ n.value → n.value < 2 ^ 64 →
    text_of n ≡ text_of (shortened n) ++ (48 + n.value % 10) ∷ []
cut_text n some bound =
    ap (λ ds. replicate n.zeros 48 ++ ds) (decimal_step n.value some bound)
    ∙ sym (append_assoc (replicate n.zeros 48) (decimal (n.value / 10)) ((48 + n.value % 10) ∷ []))

module _ (db : List Metadata) where
  left_value : (n : Reading) → is_left db (cut n) ≡ true → 10 ≤ n.national.value
  left_value n h = two_digits n.national.value
      (and_parts (not (n.national.value / 10 == 0)) (not (is_too_short (possibility_as db Unknown (cut n)))) h).0

  once : (n : Reading) → is_left db (cut n) ≡ true → n.national.value < 2 ^ 64 → IsCutFrom n (cut n)
  once n h bound = record {
    digit = 48 + n.national.value % 10;
    rest = [];
    same = refl;
    whole = cut_text n.national (left_value n h) bound;
  }

  further : (n t : Reading) → is_left db (cut n) ≡ true → n.national.value < 2 ^ 64 → IsCutFrom (cut n) t → IsCutFrom n t
  further n t h bound c = record {
    digit = c.digit;
    rest = c.rest ++ (48 + n.national.value % 10) ∷ [];
    same = c.same;
    whole = cut_text n.national (left_value n h) bound
        ∙ ap (λ ds. ds ++ (48 + n.national.value % 10) ∷ []) c.whole
        ∙ append_assoc (text_of t.national) (c.digit ∷ c.rest) ((48 + n.national.value % 10) ∷ []);
  }

  step : (most : ℕ) (n t : Reading) (some valid : Bool) → is_left db (cut n) ≡ some → is_valid_number db (cut n) ≡ valid → n.national.value < 2 ^ 64 →
      (find (is_valid_number db) (cuts db most (cut n)) ≡ Some t → IsCutFrom (cut n) t) →
      (if some then (if valid then Some (cut n) else find (is_valid_number db) (cuts db most (cut n))) else None) ≡ Some t → IsCutFrom n t
  step most n t false valid left e bound later h = absurd (none-some t h)
  step most n t true true left e bound later h = subst (IsCutFrom n) (same_Some (cut n) t h) (once n left bound)
  step most n t true false left e bound later h = further n t left bound (later h)

  opened : (some valid : Bool) (n : Reading) (others : List Reading) → is_valid_number db n ≡ valid →
      find (is_valid_number db) (if some then n ∷ others else []) ≡ (if some then (if valid then Some n else find (is_valid_number db) others) else None)
  opened false valid n others e = refl
  opened true true n others e = rw e refl
  opened true false n others e = rw e refl

  found_cut : (most : ℕ) (n t : Reading) → n.national.value < 2 ^ 64 → find (is_valid_number db) (cuts db most n) ≡ Some t → IsCutFrom n t
  unfolding cuts
  found_cut zero n t bound h = absurd (none-some t h)
  found_cut (suc most) n t bound h =
      step most n t (is_left db (cut n)) (is_valid_number db (cut n)) refl refl bound
      (λ later. found_cut most (cut n) t (omega (arith, bound)) later)
      (sym (opened (is_left db (cut n)) (is_valid_number db (cut n)) (cut n) (cuts db most (cut n)) refl) ∙ h)

  front_by : (n t : Reading) (valid : Bool) → is_valid_number db n ≡ valid → n.national.value < 2 ^ 64 →
      (if valid then Some n else find (is_valid_number db) (cuts db 17 n)) ≡ Some t → (t ≡ n) ⊎ IsCutFrom n t
  front_by n t true e bound h = inl (sym (same_Some n t h))
  front_by n t false e bound h = inr (found_cut 17 n t bound h)

  pub truncated-front : (n t : Reading) → n.national.value < 2 ^ 64 → truncated db n ≡ Some t → (t ≡ n) ⊎ IsCutFrom n t
  truncated-front n t bound h = front_by n t (is_valid_number db n) refl bound h

  pub truncated-whole : (n : Reading) → is_valid_number db n ≡ true → truncated db n ≡ Some n
  truncated-whole n h = cond-true _ _ _ h

  pub truncated-valid : (n t : Reading) → truncated db n ≡ Some t → is_valid_number db t ≡ true
  truncated-valid n t h = find-passes (is_valid_number db) (n ∷ cuts db 17 n) t h
