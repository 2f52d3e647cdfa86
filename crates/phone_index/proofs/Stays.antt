-- What a stable sort leaves as it is.
use Rattle.std.proofs.Common.{◌≡◌, Bool, not, ◌&&◌, List, filter, refl, sym, ap, ◌∙◌}
use Rattle.std.specs.Cmp.{IsTotalOrder}
use Rattle.std.specs.List.Sorted.{IsStable, ties}
use Rattle.std.specs.Ordering.{eq_by_cmp, is_eq, is_lt, ordering_reverse}
use Rattle.std.specs.declared.cmp.Ordering.{Ordering}
use Rattle.std.specs.declared.cmp.Ordering.TheVariants.{Less, Equal, Greater}

-- two tests that answer alike keep the same of a list
pub filter_alike : {X : Type 0} (p q : X → Bool) → ((x : X) → p x ≡ q x) → (xs : List X) → filter p xs ≡ filter q xs
filter_alike p q alike xs i = filter (λ x. alike x i) xs

neither_less : (a b : Ordering) → a ≡ ordering_reverse b → (not (is_lt a) && not (is_lt b)) ≡ is_eq b
neither_less a b e = ap (λ o. not (is_lt o) && not (is_lt b)) e ∙ by b
  where
    by : (o : Ordering) → (not (is_lt (ordering_reverse o)) && not (is_lt o)) ≡ is_eq o
    by Less = refl
    by Equal = refl
    by Greater = refl

-- a stable sort leaves those that equal one element in the order in which they came
pub same_stay : {X : Type 0} {R : X → X → Ordering} (o : IsTotalOrder R) {E : X → X → Bool} → ((x y : X) → E x y ≡ eq_by_cmp R x y) →
    (xs ys : List X) → IsStable R xs ys → (x : X) → filter (λ y. E y x) ys ≡ filter (λ y. E y x) xs
same_stay {X = X} {R = R} o {E = E} equal xs ys stable x = sym (alike ys) ∙ stable x ∙ alike xs
  where
    alike : (zs : List X) → filter (ties (λ a b. is_lt (R a b)) x) zs ≡ filter (λ y. E y x) zs
    alike = filter_alike _ _ (λ y. neither_less (R x y) (R y x) (o.antisymm x y) ∙ sym (equal y x))
