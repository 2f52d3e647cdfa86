-- The territories that an iteration gives are the last ones of their ids.
use Rattle.std.proofs.Common.{◌≡◌, ◌⊎◌, inl, inr, ℕ, Bool, true, false, cond, List, [], ◌∷◌, ◌||◌, map, Option, None, Some, refl, ap, sym, subst, ◌∙◌, arith}
use Rattle.std.proofs.lemmas.Bool.{false_from_ne_true, true≢false}
use Rattle.std.proofs.lemmas.List.Elements.{Contains-append_left, Contains-append_right, Contains-append_cases, Contains-push, Contains-push_cases}
use Rattle.std.proofs.lemmas.Option.{none-some}
use Rattle.std.proofs.lemmas.Slice.Eq.{bytes_eq-Decides}
use Rattle.std.specs.List.{AllByRecursion, Contains, IsDistinct, list_any}
use Rattle.std.specs.Option.{option_or, unwrap_or}
use Rattle.std.specs.Str.{bytes_eq}
use Rattle.phone_territory.specs.Records.{id_of}
use Rattle.phone_plans.specs.Records.{has_id, last_where, last_with, lasts}
use Rattle.phone_records.specs.declared.loader.Metadata.{Metadata}

uncons : {X : Type 0} (x y : X) (xs : List X) → Contains (x ∷ xs) y → (x ≡ y) ⊎ Contains xs y
uncons x y xs h = step (Contains-append_cases (x ∷ []) xs y h)
  where
    alone : Contains [] y ⊎ (x ≡ y) → x ≡ y
    alone (inl h) = absurd (omega (arith, h.1))
    alone (inr e) = e

    step : Contains (x ∷ []) y ⊎ Contains xs y → (x ≡ y) ⊎ Contains xs y
    step (inl h) = inl (alone (Contains-push_cases [] x y h))
    step (inr h) = inr h

first_in : {X : Type 0} (x : X) (xs : List X) → Contains (x ∷ xs) x
first_in x xs = Contains-append_left (x ∷ []) xs x (Contains-push [] x)

later_in : {X : Type 0} (x y : X) (xs : List X) → Contains xs y → Contains (x ∷ xs) y
later_in x y xs h = Contains-append_right (x ∷ []) xs y h

none_last : {X : Type 0} (p : X → Bool) (xs : List X) → list_any p xs ≡ false → last_where p xs ≡ None
none_last p [] e = refl
none_last p (x ∷ xs) e = step (p x) (none_last p xs) e
  where
    step : (b : Bool) → (list_any p xs ≡ false → last_where p xs ≡ None) → (b || list_any p xs) ≡ false → option_or (last_where p xs) (cond b (Some x) None) ≡ None
    step false f e = ap (λ o. option_or o None) (f e)
    step true f e = absurd (true≢false e)

none_any : {X : Type 0} (p : X → Bool) (xs : List X) → last_where p xs ≡ None → list_any p xs ≡ false
none_any p [] e = refl
none_any {X = X} p (x ∷ xs) e = step (last_where p xs) (p x) (none_any p xs) e
  where
    step : (o : Option X) (b : Bool) → (o ≡ None → list_any p xs ≡ false) → option_or o (cond b (Some x) None) ≡ None → (b || list_any p xs) ≡ false
    step None false f e = f refl
    step None true f e = absurd (none-some x (sym e))
    step (Some y) b f e = absurd (none-some y (sym e))

own_id : (m : Metadata) → has_id (id_of m) m ≡ true
own_id m = (bytes_eq-Decides (id_of m) (id_of m)).1 refl

-- what an iteration gives is the last of its id
pub lasts-last : (db : List Metadata) (m : Metadata) → Contains (lasts db) m → last_with (id_of m) db ≡ Some m
lasts-last [] m h = absurd (omega (arith, h.1))
lasts-last (x ∷ xs) m h = step (list_any (has_id (id_of x)) xs) refl (lasts-last xs m) h
  where
    later : last_with (id_of m) xs ≡ Some m → last_with (id_of m) (x ∷ xs) ≡ Some m
    later e = ap (λ o. option_or o (cond (has_id (id_of m) x) (Some x) None)) e

    alone : list_any (has_id (id_of x)) xs ≡ false → last_with (id_of x) (x ∷ xs) ≡ Some x
    alone e = ap (λ o. option_or o (cond (has_id (id_of x) x) (Some x) None)) (none_last (has_id (id_of x)) xs e) ∙ ap (λ b. cond b (Some x) None) (own_id x)

    cases : list_any (has_id (id_of x)) xs ≡ false → (Contains (lasts xs) m → last_with (id_of m) xs ≡ Some m) → (x ≡ m) ⊎ Contains (lasts xs) m → last_with (id_of m) (x ∷ xs) ≡ Some m
    cases e f (inl same) = subst (λ y. last_with (id_of y) (x ∷ xs) ≡ Some y) same (alone e)
    cases e f (inr h) = later (f h)

    step : (b : Bool) → list_any (has_id (id_of x)) xs ≡ b → (Contains (lasts xs) m → last_with (id_of m) xs ≡ Some m) → Contains (cond b (lasts xs) (x ∷ lasts xs)) m → last_with (id_of m) (x ∷ xs) ≡ Some m
    step true e f h = later (f h)
    step false e f h = cases e f (uncons x m (lasts xs) h)

-- no item given is of an id
abbrev NoneGiven : List ℕ → List Metadata → Type 0
NoneGiven id ms = AllByRecursion (λ other. bytes_eq id other ≡ false) (map id_of ms)

none_given : (id : List ℕ) (db : List Metadata) → list_any (has_id id) db ≡ false → NoneGiven id (lasts db)
none_given id [] e = tt
none_given id (x ∷ xs) e = step (has_id id x) refl (list_any (has_id (id_of x)) xs) e (none_given id xs)
  where
    apart : has_id id x ≡ false → bytes_eq id (id_of x) ≡ false
    apart other = false_from_ne_true _ (λ t. true≢false (sym ((bytes_eq-Decides (id_of x) id).1 (sym ((bytes_eq-Decides id (id_of x)).0 t))) ∙ other))

    step : (b : Bool) → has_id id x ≡ b → (c : Bool) → (b || list_any (has_id id) xs) ≡ false → (list_any (has_id id) xs ≡ false → NoneGiven id (lasts xs)) → NoneGiven id (cond c (lasts xs) (x ∷ lasts xs))
    step true has c e f = absurd (true≢false e)
    step false has true e f = f e
    step false has false e f = (apart has, f e)

-- no two that are given have one id
pub distinct-lasts : (db : List Metadata) → IsDistinct bytes_eq (map id_of (lasts db))
unfolding IsDistinct
distinct-lasts [] = tt
distinct-lasts (x ∷ xs) = step (list_any (has_id (id_of x)) xs) refl (distinct-lasts xs)
  where
    step : (b : Bool) → list_any (has_id (id_of x)) xs ≡ b → IsDistinct bytes_eq (map id_of (lasts xs)) → IsDistinct bytes_eq (map id_of (cond b (lasts xs) (x ∷ lasts xs)))
    step true e d = d
    step false e d = (none_given (id_of x) xs e, d)

-- the last of an id is given
pub last-lasts : (id : List ℕ) (db : List Metadata) (m : Metadata) → last_with id db ≡ Some m → Contains (lasts db) m
last-lasts id [] m e = absurd (none-some m e)
last-lasts id (x ∷ xs) m e = step (last_with id xs) refl (has_id id x) refl (last-lasts id xs) e
  where
    wider : (b : Bool) (y : Metadata) → Contains (lasts xs) y → Contains (cond b (lasts xs) (x ∷ lasts xs)) y
    wider true y h = h
    wider false y h = later_in x y (lasts xs) h

    alone : has_id id x ≡ true → last_with id xs ≡ None → Contains (lasts (x ∷ xs)) x
    alone same none =
        let is : id_of x ≡ id = (bytes_eq-Decides (id_of x) id).0 same in
        let apart : list_any (has_id (id_of x)) xs ≡ false = none_any (has_id (id_of x)) xs (subst (λ i. last_with i xs ≡ None) (sym is) none) in
        subst (λ b. Contains (cond b (lasts xs) (x ∷ lasts xs)) x) (sym apart) (first_in x (lasts xs))

    step : (o : Option Metadata) → last_with id xs ≡ o → (b : Bool) → has_id id x ≡ b → ((y : Metadata) → last_with id xs ≡ Some y → Contains (lasts xs) y) →
        option_or o (cond b (Some x) None) ≡ Some m → Contains (lasts (x ∷ xs)) m
    step (Some y) is b has f e = wider (list_any (has_id (id_of x)) xs) m (f m (is ∙ e))
    step None is true has f e = subst (Contains (lasts (x ∷ xs))) (ap (λ o. unwrap_or o x) e) (alone has is)
    step None is false has f e = absurd (none-some m e)
