-- What a search in a list finds, and what a filter and map leaves.
use Rattle.std.proofs.Common.{◌≡◌, Bool, true, List, [], ◌∷◌, Option, Some, None, IfSome, option_map, refl}
use Rattle.std.proofs.lemmas.Bool.{and_from, and_parts, cond_both}
use Rattle.std.specs.List.{list_all, find, filter_map, cons_option}
use Rattle.std.specs.Option.{option_or}

-- what is found passes the test, and whatever test all elements pass
pub IfSome-find : {X : Type 0} (p q : X → Bool) (xs : List X) → list_all q xs ≡ true → IfSome (find p xs) (λ x. (p x ≡ true) × (q x ≡ true))
IfSome-find p q [] h = tt
IfSome-find p q (x ∷ xs) h =
    let both = and_parts (q x) (list_all q xs) h in
    cond_both (p x) (Some x) (find p xs) (λ o. IfSome o (λ x. (p x ≡ true) × (q x ≡ true)))
    (λ t. (t, both.0)) (λ f. IfSome-find p q xs both.1)

pub IfSome-option_map : {X Y : Type 0} (f : X → Y) (P : X → Type 0) (Q : Y → Type 0) (o : Option X) → IfSome o P → ((x : X) → P x → Q (f x)) → IfSome (option_map f o) Q
IfSome-option_map f P Q None h g = tt
IfSome-option_map f P Q (Some x) h g = g x h

pub IfSome-option_or : {X : Type 0} (Q : X → Type 0) (a b : Option X) → IfSome a Q → IfSome b Q → IfSome (option_or a b) Q
IfSome-option_or Q None b h k = k
IfSome-option_or Q (Some x) b h k = h

pub list_all-cons_option : {X : Type 0} (q : X → Bool) (o : Option X) (xs : List X) → IfSome o (λ x. q x ≡ true) → list_all q xs ≡ true → list_all q (cons_option o xs) ≡ true
list_all-cons_option q None xs h k = k
list_all-cons_option q (Some x) xs h k = and_from _ _ h k

pub list_all-filter_map : {X Y : Type 0} (f : X → Option Y) (q : Y → Bool) → ((x : X) → IfSome (f x) (λ y. q y ≡ true)) → (xs : List X) → list_all q (filter_map f xs) ≡ true
list_all-filter_map f q h [] = refl
list_all-filter_map f q h (x ∷ xs) = list_all-cons_option q (f x) (filter_map f xs) (h x) (list_all-filter_map f q h xs)
