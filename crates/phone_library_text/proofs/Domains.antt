-- What a domain's name is, told at its first full stop.
use Rattle.std.proofs.Common.{◌≡◌, ◌⊎◌, ◌↔◌, inl, inr, ⊎_elim, ℕ, zero, suc, ◌≤◌, Bool, true, false, ◌==◌, ◌||◌, ◌&&◌, IsTrue, List, [], ◌∷◌, ◌++◌, length, Option, Some, None, refl, ap, sym, subst, ◌∙◌, true≢false, arith, eqb-true, length-append}
use Rattle.std.proofs.lemmas.Bool.{and_from, and_parts, false_from_ne_true}
use Rattle.std.proofs.lemmas.List.{nil_from_length}
use Rattle.std.specs.List.{list_any}
use Rattle.ucd_category.proofs.Computing.{ucd_category}
use Rattle.phone_chars.specs.Characters.{is_alpha}
use Rattle.phone_parts.specs.Texts.{begins}
use Rattle.phone_parts.proofs.PrintedTexts.{none_apart}
use Rattle.phone_library_text.specs.Contexts
use Rattle.phone_library_text.specs.Contexts.{IsDomain, is_alphanumeric, is_label}
use Rattle.phone_library_text.specs.Places.{parted}
use Rattle.phone_library_text.proofs.Decided.{Decided, decided_as, decided_true}
use Rattle.phone_library_text.proofs.Partings.{Parting, ends_of, fronts_of, not_none, parted-none, parted-one, parts_of_parted}

abbrev Stop : List ℕ
Stop = 46 ∷ []

-- a last label: one that begins with a letter
abbrev pub is_last_label : List ℕ → Bool
is_last_label l = is_label l && begins is_alpha l

-- a label has no full stop
no_stop : is_alphanumeric 46 || (46 == 45) ≡ false
unfolding ucd_category
no_stop = refl

stopless : (l : List ℕ) → is_label l ≡ true → list_any (λ c. c == 46) l ≡ false
stopless l h =
    none_apart (λ c. c == 46) (λ c. is_alphanumeric c || (c == 45))
    (λ c allowed. false_from_ne_true (c == 46) (λ t. true≢false (sym allowed ∙ ap (λ x. is_alphanumeric x || (x == 45)) (eqb-true c 46 t) ∙ no_stop)))
    l (and_parts _ _ (and_parts _ _ h).0).0

-- no domain's name is empty
some_domain : (t : List ℕ) → IsDomain t → ¬ (t ≡ [])
some_domain t (Contexts.last l h b) e = true≢false (sym b ∙ ap (begins is_alpha) e)
some_domain t (Contexts.stopped l h b) e = not_nil l [] e
  where
    not_nil : (l r : List ℕ) → ¬ (l ++ 46 ∷ r ≡ [])
    not_nil [] r e = cc
    not_nil (x ∷ l) r e = cc
some_domain t (Contexts.more l r h d) e = not_nil l r e
  where
    not_nil : (l r : List ℕ) → ¬ (l ++ 46 ∷ r ≡ [])
    not_nil [] r e = cc
    not_nil (x ∷ l) r e = cc

stop_none : (l r : List ℕ) → is_label l ≡ true → ¬ (parted Stop (l ++ 46 ∷ r) ≡ None)
stop_none l r h e = not_none (l, r) (sym (parted-one 46 l r (stopless l h)) ∙ e)

-- a text without a full stop is a domain's name where it is a last label
pub domain_of_label : (t : List ℕ) → parted Stop t ≡ None → IsTrue (is_last_label t) ↔ IsDomain t
domain_of_label t e = (λ h. let parts = and_parts (is_label t) (begins is_alpha t) h in Contexts.last t parts.0 parts.1, back t e)
  where
    back : (t : List ℕ) → parted Stop t ≡ None → IsDomain t → is_last_label t ≡ true
    back t e (Contexts.last l h b) = and_from _ _ h b
    back t e (Contexts.stopped l h b) = absurd (stop_none l [] h e)
    back t e (Contexts.more l r h d) = absurd (stop_none l r h e)

no_stop_none : (l a b : List ℕ) → is_label l ≡ true → ¬ (parted Stop l ≡ Some (a, b))
no_stop_none l a b h e = not_none (a, b) (sym e ∙ parted-none 46 [] l (stopless l h))

-- what stands before the first full stop of a domain's name, and behind it
first_label : (l r front after : List ℕ) → is_label l ≡ true → parted Stop (l ++ 46 ∷ r) ≡ Some (front, after) → (l ≡ front) × (r ≡ after)
first_label l r front after h e =
    let same : Path (Option Parting) (Some (l, r)) (Some (front, after)) = sym (parted-one 46 l r (stopless l h)) ∙ e in
    (fronts_of l r front after same, ends_of l r front after same)

pub first_of_domain : (t front after : List ℕ) → parted Stop t ≡ Some (front, after) → IsDomain t →
    (is_label front ≡ true) × (((after ≡ []) × (begins is_alpha front ≡ true)) ⊎ IsDomain after)
first_of_domain t front after e (Contexts.last l h b) = absurd (no_stop_none l front after h e)
first_of_domain t front after e (Contexts.stopped l h b) =
    let same = first_label l [] front after h e in
    (ap is_label (sym same.0) ∙ h, inl (sym same.1, ap (begins is_alpha) (sym same.0) ∙ b))
first_of_domain t front after e (Contexts.more l r h d) =
    let same = first_label l r front after h e in
    (ap is_label (sym same.0) ∙ h, inr (subst IsDomain same.1 d))

-- a text that is parted at its last character, a full stop, is a domain's name where a last label stands before it
pub domain_of_stopped : (t front after : List ℕ) → parted Stop t ≡ Some (front, after) → after ≡ [] → IsTrue (is_last_label front) ↔ IsDomain t
domain_of_stopped t front after e nil = (to, back)
  where
    to : IsTrue (is_last_label front) → IsDomain t
    to h =
        let parts = and_parts (is_label front) (begins is_alpha front) h in
        let whole : t ≡ front ++ 46 ∷ [] = (parts_of_parted Stop t front after e).whole ∙ ap (λ r. front ++ 46 ∷ r) nil in
        subst IsDomain (sym whole) (Contexts.stopped front parts.0 parts.1)

    back : IsDomain t → IsTrue (is_last_label front)
    back d =
        let first = first_of_domain t front after e d in
        ⊎_elim (λ (s : (after ≡ []) × (begins is_alpha front ≡ true)). and_from _ _ first.0 s.1) (λ (r : IsDomain after). absurd (some_domain after r nil)) first.1

-- a text with more behind its first full stop is a domain's name where that is one, if a label stands before it
pub domain_of_more : (t front after : List ℕ) → parted Stop t ≡ Some (front, after) → ¬ (after ≡ []) → is_label front ≡ true → IsDomain after ↔ IsDomain t
domain_of_more t front after e some h = (to, back)
  where
    to : IsDomain after → IsDomain t
    to d = subst IsDomain (sym (parts_of_parted Stop t front after e).whole) (Contexts.more front after h d)

    back : IsDomain t → IsDomain after
    back d = ⊎_elim (λ (s : (after ≡ []) × (begins is_alpha front ≡ true)). absurd (some s.0)) (λ (r : IsDomain after). r) (first_of_domain t front after e d).1

pub not_domain : (t front after : List ℕ) → parted Stop t ≡ Some (front, after) → is_label front ≡ false → ¬ (IsDomain t)
not_domain t front after e none d = true≢false (sym (first_of_domain t front after e d).0 ∙ none)

-- it is decided whether a text is one
by_iff : (A B : Type 0) → A ↔ B → Decided A → Decided B
by_iff A B iff d = decided_as A B iff.0 iff.1 d

pub decided_domain : (n : ℕ) (t : List ℕ) → length t ≤ n → Decided (IsDomain t)
decided_domain zero t le = inr (λ d. some_domain t d (nil_from_length t (omega (arith, le))))
decided_domain (suc n) t le = at (parted Stop t) refl (decided_domain n)
  where
    shorter : (front after : List ℕ) → parted Stop t ≡ Some (front, after) → length after ≤ n
    shorter front after e =
        let whole = (parts_of_parted Stop t front after e).whole in
        omega (arith, le, ap length whole, length-append front (46 ∷ after))

    at_label : (b : Bool) (front : List ℕ) (c : ℕ) (cs : List ℕ) → is_label front ≡ b → parted Stop t ≡ Some (front, c ∷ cs) →
        ((t : List ℕ) → length t ≤ n → Decided (IsDomain t)) → Decided (IsDomain t)
    at_label true front c cs h e next = by_iff (IsDomain (c ∷ cs)) (IsDomain t) (domain_of_more t front (c ∷ cs) e (λ f. cc) h) (next (c ∷ cs) (shorter front (c ∷ cs) e))
    at_label false front c cs h e next = inr (not_domain t front (c ∷ cs) e h)

    at : (o : Option Parting) → parted Stop t ≡ o → ((t : List ℕ) → length t ≤ n → Decided (IsDomain t)) → Decided (IsDomain t)
    at None e next = by_iff (is_last_label t ≡ true) (IsDomain t) (domain_of_label t e) (decided_true (is_last_label t))
    at (Some (front, [])) e next = by_iff (is_last_label front ≡ true) (IsDomain t) (domain_of_stopped t front [] e refl) (decided_true (is_last_label front))
    at (Some (front, c ∷ cs)) e next = at_label (is_label front) front c cs refl e next
