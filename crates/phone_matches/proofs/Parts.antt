-- Where a part stands in a text, place by place; lists of texts, one by one.
use Rattle.std.proofs.Common.{◌≡◌, ℕ, suc, ◌≤◌, Bool, true, false, nat_eq, List, [], ◌∷◌, drop, length, Option, None, Some, refl, ap, sym, ◌∙◌, true≢false}
use Rattle.std.specs.List.{starts_with}
use Rattle.std.proofs.lemmas.Bool.{and_parts}
use Rattle.std.specs.Str.{bytes_eq}
use Rattle.phone_matches.specs.Exact.{are_same}
use Rattle.phone_matches.specs.Texts.{from_part}

-- it stands at the front
pub part_here : (part t : List ℕ) → starts_with nat_eq t part ≡ true → from_part part t ≡ Some t
part_here part [] h = rw h refl
part_here part (c ∷ cs) h = rw h refl

-- it doesn't
pub part_later : (part t : List ℕ) (c : ℕ) (cs : List ℕ) → starts_with nat_eq t part ≡ false → t ≡ c ∷ cs → from_part part t ≡ from_part part cs
part_later part t c cs h e = ap (from_part part) e ∙ on (sym (ap (λ (u : List ℕ). starts_with nat_eq u part) e) ∙ h)
  where
    on : starts_with nat_eq (c ∷ cs) part ≡ false → from_part part (c ∷ cs) ≡ from_part part cs
    on f = rw f refl

-- and nothing is left
pub part_nowhere : (part t : List ℕ) → starts_with nat_eq t part ≡ false → t ≡ [] → from_part part t ≡ None
part_nowhere part t h e = ap (from_part part) e ∙ on (sym (ap (λ (u : List ℕ). starts_with nat_eq u part) e) ∙ h)
  where
    on : starts_with nat_eq [] part ≡ false → from_part part [] ≡ None
    on f = rw f refl

-- lists of the same texts have as many
pub same_length : (ts us : List (List ℕ)) → are_same ts us ≡ true → length ts ≡ length us
same_length [] [] h = refl
same_length [] (u ∷ us) h = absurd (true≢false (sym h))
same_length (t ∷ ts) [] h = absurd (true≢false (sym h))
same_length (t ∷ ts) (u ∷ us) h = ap suc (same_length ts us (and_parts (bytes_eq t u) (are_same ts us) h).1)

pub other_length : (ts us : List (List ℕ)) → ¬ (length ts ≡ length us) → are_same ts us ≡ false
other_length ts us other = by_test (are_same ts us) refl
  where
    by_test : (b : Bool) → are_same ts us ≡ b → b ≡ false
    by_test true e = absurd (other (same_length ts us e))
    by_test false e = refl
