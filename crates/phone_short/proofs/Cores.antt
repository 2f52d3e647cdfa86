-- The digits that are asked of a text are those of its core.
use Rattle.std.proofs.Common.{◌≡◌, ◌⊎◌, inl, inr, ⊎_elim, ℕ, zero, suc, ◌<◌, ◌==◌, ◌&&◌, Bool, true, false, not, cond, List, [], ◌∷◌, ◌++◌, length, drop, refl, ap, sym, ◌∙◌, arith, eqb-true, true≢false}
use Rattle.std.proofs.lemmas.Bool.{cond_both, false_from_ne_true, or_left, or_parts, or_right}
use Rattle.std.specs.List.{cons_option, filter_map, list_any}
use Rattle.ucd_category.proofs.Computing.{ucd_category}
use Rattle.ucd_category.proofs.GeneralCategoryLemmas.{general_category_number_injective}
use Rattle.ucd_category.specs.GeneralCategory.{general_category, general_category_number}
use Rattle.ucd_category.specs.GeneralCategoryGroup.{in_group}
use Rattle.ucd_category.specs.declared.GeneralCategory.TheVariants.{DecimalNumber}
use Rattle.ucd_category.specs.declared.GeneralCategoryGroup.TheVariants.{Number}
use Rattle.phone_chars.specs.Characters.{is_nd, is_one_of}
use Rattle.phone_chars.specs.Cuts.{after_front}
use Rattle.phone_parts.specs.Cores.{IsBeforeSecondNumber, IsCore, IsTrimmed, begins_second_number, is_last, is_start}
use Rattle.phone_parts.specs.Texts.{begins}
use Rattle.phone_parts.proofs.Cores.{after_front_others, first_number_same, from_first, nil_first_number, nil_trimmed}
use Rattle.phone_parts.proofs.PrintedCores.{cut_after_last}
use Rattle.phone_library_text.specs.Letters.{value_of}
use Rattle.phone_library_text.proofs.Digits.{value_none}
use Rattle.phone_short.specs.Texts.{before_second, digits_in, from_start, is_dialled_within}

-- the values of all digits
abbrev pub values : List ℕ → List ℕ
values cs = filter_map value_of cs

nd_last : (c : ℕ) → is_nd c ≡ true → is_last c ≡ true
nd_last c h =
    let same : general_category c ≡ DecimalNumber =
    general_category_number_injective (general_category c) DecimalNumber
    (eqb-true (general_category_number (general_category c)) (general_category_number DecimalNumber) h) in
    or_left _ _ (or_right _ _ (ap (in_group Number) same))

x_last : (c : ℕ) → (c == 120) ≡ true → is_last c ≡ true
unfolding ucd_category
x_last c e = ap is_last (eqb-true c 120 e)

none_narrower : (p q : ℕ → Bool) → ((c : ℕ) → p c ≡ true → q c ≡ true) → (cs : List ℕ) → list_any q cs ≡ false → list_any p cs ≡ false
none_narrower p q f [] none = refl
none_narrower p q f (c ∷ cs) none =
    let parts = or_parts (q c) (list_any q cs) none in
    let here : p c ≡ false = false_from_ne_true (p c) (λ e. true≢false (sym (f c e) ∙ parts.0)) in
    rw here (none_narrower p q f cs parts.1)

-- ---- what is trimmed has no digit, and part of no mark

begins_none : (p q : ℕ → Bool) (cs : List ℕ) → list_any p cs ≡ false → begins p (after_front q cs) ≡ false
begins_none p q [] none = refl
begins_none p q (c ∷ cs) none =
    let parts = or_parts (p c) (list_any p cs) none in
    cond_both (q c) (after_front q cs) (c ∷ cs) (λ t. begins p t ≡ false) (λ _. begins_none p q cs parts.1) (λ _. parts.0)

begins_behind : (p q : ℕ → Bool) (cs behind : List ℕ) → list_any p behind ≡ false → begins p (after_front q (cs ++ behind)) ≡ begins p (after_front q cs)
begins_behind p q [] behind none = begins_none p q behind none
begins_behind p q (c ∷ cs) behind none = at (q c) (begins_behind p q cs behind none)
  where
    at : (b : Bool) → begins p (after_front q (cs ++ behind)) ≡ begins p (after_front q cs) →
        begins p (cond b (after_front q (cs ++ behind)) (c ∷ (cs ++ behind))) ≡ begins p (cond b (after_front q cs) (c ∷ cs))
    at true h = h
    at false h = refl

mark_behind : (c : ℕ) (cs behind : List ℕ) → list_any is_last behind ≡ false → begins_second_number (c ∷ (cs ++ behind)) ≡ begins_second_number (c ∷ cs)
mark_behind c cs behind none =
    ap (λ b. is_one_of (47 ∷ 92 ∷ []) c && b) (begins_behind (λ d. d == 120) (λ d. d == 32) cs behind (none_narrower (λ d. d == 120) is_last x_last behind none))

no_values : (cs : List ℕ) → list_any is_last cs ≡ false → values (before_second cs) ≡ []
no_values [] none = refl
no_values (c ∷ cs) none =
    let parts = or_parts (is_last c) (list_any is_last cs) none in
    let no_digit : is_nd c ≡ false = false_from_ne_true (is_nd c) (λ e. true≢false (sym (nd_last c e) ∙ parts.0)) in
    cond_both (begins_second_number (c ∷ cs)) [] (c ∷ before_second cs) (λ t. values t ≡ []) (λ _. refl)
    (λ _. ap (λ o. cons_option o (values (before_second cs))) (value_none c no_digit) ∙ no_values cs parts.1)

values_behind : (kept behind : List ℕ) → list_any is_last behind ≡ false → values (before_second (kept ++ behind)) ≡ values (before_second kept)
values_behind [] behind none = no_values behind none
values_behind (c ∷ cs) behind none =
    ap (λ b. values (cond b [] (c ∷ before_second (cs ++ behind)))) (mark_behind c cs behind none)
    ∙ at (begins_second_number (c ∷ cs)) (values_behind cs behind none)
  where
    at : (b : Bool) → values (before_second (cs ++ behind)) ≡ values (before_second cs) →
        values (cond b [] (c ∷ before_second (cs ++ behind))) ≡ values (cond b [] (c ∷ before_second cs))
    at true h = refl
    at false h = ap (cons_option (value_of c)) h

values_trimmed : (from kept : List ℕ) → IsTrimmed from kept → values (before_second from) ≡ values (before_second kept)
values_trimmed from kept h = ap (λ t. values (before_second t)) h.whole ∙ values_behind kept h.trailing h.no_last

-- ---- what stands before the first mark

before_is : (t : List ℕ) → IsBeforeSecondNumber t (before_second t)
before_is [] = record { after = []; whole = refl; ended = inl refl; earliest = λ k less. absurd (omega (arith, less)) }
before_is (c ∷ cs) = at (begins_second_number (c ∷ cs)) refl (before_is cs)
  where
    earlier : (first : List ℕ) → begins_second_number (c ∷ cs) ≡ false → ((k : ℕ) → k < length first → begins_second_number (drop k cs) ≡ false) →
        (k : ℕ) → k < suc (length first) → begins_second_number (drop k (c ∷ cs)) ≡ false
    earlier first e f zero less = e
    earlier first e f (suc k) less = f k (omega (arith, less))

    at : (b : Bool) → begins_second_number (c ∷ cs) ≡ b → IsBeforeSecondNumber cs (before_second cs) →
        IsBeforeSecondNumber (c ∷ cs) (cond b [] (c ∷ before_second cs))
    at true e h = record { after = c ∷ cs; whole = refl; ended = inr e; earliest = λ k less. absurd (omega (arith, less)) }
    at false e h =
        record { after = h.after; whole = ap (λ t. c ∷ t) h.whole; ended = h.ended; earliest = earlier (before_second cs) e h.earliest }

-- ---- with a core

module _ (t core : List ℕ) (h : IsCore t core) where
  from_is : from_start t ≡ h.from
  from_is = ap from_start h.whole ∙ after_front_others is_start h.before h.from h.no_start h.starts

  pub core_digits : digits_in t ≡ values core
  core_digits =
      ap (λ f. values (before_second f)) from_is ∙ values_trimmed h.from h.kept h.trimmed
      ∙ ap values (first_number_same h.kept (before_second h.kept) core (before_is h.kept) h.first)

  pub core_within : is_dialled_within t ≡ begins is_nd core
  core_within =
      ap (begins is_nd) (from_is ∙ h.trimmed.whole ∙ ap (λ k. k ++ h.trimmed.trailing) h.first.whole) ∙ at core h.not_empty
    where
      at : (c : List ℕ) → ¬ (c ≡ []) → begins is_nd ((c ++ h.first.after) ++ h.trimmed.trailing) ≡ begins is_nd c
      at [] some = absurd (some refl)
      at (x ∷ xs) some = refl

-- ---- without one

some_trimmed : (t : List ℕ) → (kept : List ℕ) × IsTrimmed t kept
some_trimmed t = at (list_any is_last t) refl
  where
    at : (b : Bool) → list_any is_last t ≡ b → (kept : List ℕ) × IsTrimmed t kept
    at true e = let c = cut_after_last is_last t e in (c.kept, record { trailing = c.rest; whole = c.whole; no_last = c.none; trimmed = inr c.last })
    at false e = ([], record { trailing = t; whole = refl; no_last = e; trimmed = inl refl })

core_if_some : (t kept : List ℕ) → IsTrimmed (from_start t) kept → ¬ (before_second kept ≡ []) → IsCore t (before_second kept)
core_if_some t kept trimmed some =
    let f = from_first is_start t in
    record {
      before = f.before;
      from = from_start t;
      kept = kept;
      whole = f.whole;
      no_start = f.none;
      starts = ⊎_elim (λ g. absurd (some (nil_first_number kept (before_second kept) (nil_trimmed (from_start t) kept g trimmed) (before_is kept)))) (λ g. g) f.first;
      trimmed = trimmed;
      first = before_is kept;
      not_empty = some;
    }

pub no_core_digits : (t : List ℕ) → ((core : List ℕ) → ¬ (IsCore t core)) → digits_in t ≡ []
no_core_digits t none = at (some_trimmed (from_start t))
  where
    by : (kept : List ℕ) → IsTrimmed (from_start t) kept → (first : List ℕ) → before_second kept ≡ first → digits_in t ≡ []
    by kept trimmed [] e = values_trimmed (from_start t) kept trimmed ∙ ap values e
    by kept trimmed (c ∷ cs) e = absurd (none (before_second kept) (core_if_some t kept trimmed (λ g. let wrong : [] ≡ c ∷ cs = sym g ∙ e in cc)))

    at : ((kept : List ℕ) × IsTrimmed (from_start t) kept) → digits_in t ≡ []
    at (kept, trimmed) = by kept trimmed (before_second kept) refl
