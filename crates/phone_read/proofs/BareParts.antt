-- What parts that are digits as they stand say of each part; and plus signs, which give no digits.
use Rattle.std.proofs.Common.{◌≡◌, ◌==◌, ◌&&◌, ◌||◌, ℕ, Bool, true, false, List, [], ◌∷◌, Option, Some, None, ◌⊎◌, inl, inr, ⊎_elim, eqb-true, refl, subst, ◌∙◌}
use Rattle.std.proofs.lemmas.Bool.{and_from, and_parts, cond_both}
use Rattle.std.specs.List.{list_all}
use Rattle.std.specs.Option.{option_map_or}
use Rattle.phone_chars.specs.Characters.{digit_of, is_digit, is_plus}
use Rattle.phone_chars.specs.Cuts.{after_front}
use Rattle.phone_chars.specs.Norm.{norm}
use Rattle.phone_read.specs.Dialling.{is_bare, is_plain}

-- what all of a text are, all that follows a front of it are
pub list_all-after_front : (p q : ℕ → Bool) (t : List ℕ) → list_all q t ≡ true → list_all q (after_front p t) ≡ true
list_all-after_front p q [] h = h
list_all-after_front p q (c ∷ cs) h = cond_both (p c) (after_front p cs) (c ∷ cs) (λ x. list_all q x ≡ true)
    (λ t. list_all-after_front p q cs (and_parts (q c) (list_all q cs) h).1) (λ f. h)

either : (a b : Bool) → (a || b) ≡ true → (a ≡ true) ⊎ (b ≡ true)
either true b h = inl refl
either false b h = inr h

-- a plus sign gives no digit
digit_of-plus : (c : ℕ) → is_plus c ≡ true → digit_of c ≡ None
digit_of-plus c h = ⊎_elim (λ e. subst (λ x. digit_of x ≡ None) (eqb-true 43 c e) refl)
    (λ f. ⊎_elim (λ e. subst (λ x. digit_of x ≡ None) (eqb-true 0xFF0B c e) refl) (λ g. cc) (either (0xFF0B == c) false f))
    (either (43 == c) ((0xFF0B == c) || false) h)

-- so leading plus signs may as well be dropped first
pub norm-after_plus : (t : List ℕ) → norm (after_front is_plus t) ≡ norm t
norm-after_plus [] = refl
norm-after_plus (c ∷ cs) = cond_both (is_plus c) (after_front is_plus cs) (c ∷ cs) (λ x. norm x ≡ norm (c ∷ cs))
    (λ t. norm-after_plus cs ∙ rw (digit_of-plus c t) refl) (λ f. refl)

module _ (n : List ℕ) (p e : Option (List ℕ)) (h : is_plain n p e ≡ true) where
  both : (list_all is_digit (after_front is_plus n) ≡ true) × ((option_map_or (list_all is_digit) p true && option_map_or (list_all is_digit) e true) ≡ true)
  both = and_parts (list_all is_digit (after_front is_plus n)) (option_map_or (list_all is_digit) p true && option_map_or (list_all is_digit) e true) h

  pub plain_national : list_all is_digit (after_front is_plus n) ≡ true
  plain_national = both.0

  pub plain_prefix : option_map_or (list_all is_digit) p true ≡ true
  plain_prefix = (and_parts (option_map_or (list_all is_digit) p true) (option_map_or (list_all is_digit) e true) both.1).0

  pub plain_extension : option_map_or (list_all is_digit) e true ≡ true
  plain_extension = (and_parts (option_map_or (list_all is_digit) p true) (option_map_or (list_all is_digit) e true) both.1).1

-- parts that are digits as they stand are such with plus signs aside
pub bare_plain : (n : List ℕ) (p e : Option (List ℕ)) → is_bare n p e ≡ true → is_plain n p e ≡ true
bare_plain n None e h = h
bare_plain n (Some p) e h =
    let parts = and_parts (list_all is_digit n) (list_all is_digit p && option_map_or (list_all is_digit) e true) h in
    and_from _ _ (list_all-after_front is_plus is_digit n parts.0) parts.1
