-- Groups as the code holds them, as lists.
use Rattle.std.proofs.Common.{◌≡◌, ℕ, zero, suc, ◌-◌, ◌==◌, ◌||◌, Bool, List, [], ◌∷◌, ◌++◌, Bor, drop, take, length, map, refl, ap, ap₂, sym, ◌∙◌}
use Rattle.std.specs.List.{insert, list_any}
use Rattle.phone_matches.specs.Exact.{are_groups, are_same, end_as, is_whole_in_last, without_extension}
use Rattle.phone_matches.specs.Runs.{told}
use Rattle.phone_matches.specs.Texts.{contains}

pub told_length : (gs : List (Bor (List ℕ))) → length (told gs) ≡ length gs
told_length [] = refl
told_length (g ∷ gs) = ap suc (told_length gs)

pub told_insert : (gs : List (Bor (List ℕ))) (g : Bor (List ℕ)) → told (insert gs 0 g) ≡ g.now ∷ told gs
told_insert gs g = refl

pub told_drop : (n : ℕ) (gs : List (Bor (List ℕ))) → told (drop n gs) ≡ drop n (told gs)
told_drop zero gs = refl
told_drop (suc n) [] = refl
told_drop (suc n) (g ∷ gs) = told_drop n gs

pub told_take : (n : ℕ) (gs : List (Bor (List ℕ))) → told (take n gs) ≡ take n (told gs)
told_take zero gs = refl
told_take (suc n) [] = refl
told_take (suc n) (g ∷ gs) = ap (λ ts. g.now ∷ ts) (told_take n gs)

pub told_any : (p : List ℕ → Bool) (gs : List (Bor (List ℕ))) → list_any (λ (g : Bor (List ℕ)). p g.now) gs ≡ list_any p (told gs)
told_any p [] = refl
told_any p (g ∷ gs) = ap (λ b. p g.now || b) (told_any p gs)

pub end_as_some : (groups runs : List (Bor (List ℕ))) (first : Bor (List ℕ)) (others : List (Bor (List ℕ))) (at : ℕ) → groups ≡ first ∷ others →
    at ≡ length runs - length groups → end_as (told groups) (told runs) ≡ are_groups first.now (told others) (told (drop at runs))
end_as_some groups runs first others at e a =
    ap (λ (gs : List (Bor (List ℕ))). end_as (told gs) (told runs)) e
    ∙ ap (are_groups first.now (told others))
    (ap (λ n. drop n (told runs)) (ap₂ (λ m n. m - n) (told_length runs) (told_length (first ∷ others) ∙ ap length (sym e)) ∙ sym a) ∙ sym (told_drop at runs))

pub whole_in_last : (digits : List ℕ) (runs : List (Bor (List ℕ))) (at : ℕ) → at ≡ length runs - 1 →
    list_any (λ (g : Bor (List ℕ)). contains digits g.now) (drop at runs) ≡ is_whole_in_last digits (told runs)
whole_in_last digits runs at a =
    told_any (contains digits) (drop at runs)
    ∙ ap (list_any (contains digits)) (told_drop at runs ∙ ap (λ n. drop n (told runs)) (a ∙ ap (λ m. m - 1) (sym (told_length runs))))

pub all_but_last : (runs : List (Bor (List ℕ))) (at : ℕ) → at ≡ length runs - 1 → told (take at runs) ≡ take (length (told runs) - 1) (told runs)
all_but_last runs at a = told_take at runs ∙ ap (λ n. take n (told runs)) (a ∙ ap (λ m. m - 1) (sym (told_length runs)))
