-- Places in a list.
use Rattle.std.proofs.Common.{◌≡◌, ℕ, suc, Bool, true, false, cond, List, [], ◌∷◌, ◌++◌, length, Option, None, Some, option_map, MatchOption, refl, ap, sym, subst, ◌∙◌}
use Rattle.std.proofs.Common.{Bor, ne_eqb, not, ◌==◌, ◌||◌, filter, map, ◌+◌, ◌<◌, take, get_or, length-take-le, arith}
use Rattle.std.proofs.lemmas.List.{append-nil, append_assoc, length-map, map-append, take_more}
use Rattle.std.proofs.lemmas.Option.{slice_get_past, slice_get-get_or}
use Rattle.std.specs.Option.{option_or, option_copied}
use Rattle.std.specs.Slice.{IsItemAt}
use Rattle.std.specs.List.{cons_option, filter_map, list_any, slice_get}
use Rattle.phone_plans.specs.Records.{last_where, last_place, places_where}

one_more : (b : Bool) (n : ℕ) (o t : Option ℕ) → option_or (option_map suc (cond b (Some n) o)) t ≡ cond b (Some (suc n)) (option_or (option_map suc o) t)
one_more true n o t = refl
one_more false n o t = refl

-- one more at the end
pub last_place-push : {X : Type 0} (p : X → Bool) (xs : List X) (x : X) → last_place p (xs ++ x ∷ []) ≡ cond (p x) (Some (length xs)) (last_place p xs)
last_place-push p [] x = refl
last_place-push p (y ∷ xs) x =
    ap (λ o. option_or (option_map suc o) (cond (p y) (Some 0) None)) (last_place-push p xs x)
    ∙ one_more (p x) (length xs) (last_place p xs) (cond (p y) (Some 0) None)

-- what stands at the place is the last that passes, and none passes where there is no place
abbrev IsPlaceOf : {X : Type 0} → List X → Option X → Option ℕ → Type 0
IsPlaceOf {X} xs w o = MatchOption o (w ≡ None) (λ k. (x : X) × (slice_get xs k ≡ Some x) × (w ≡ Some x))

next : {X : Type 0} (x : X) (xs : List X) (w : Option X) (b : Bool) (o : Option ℕ) → IsPlaceOf xs w o →
    IsPlaceOf (x ∷ xs) (option_or w (cond b (Some x) None)) (option_or (option_map suc o) (cond b (Some 0) None))
next x xs w true None h = (x, refl, ap (λ v. option_or v (Some x)) h)
next x xs w false None h = ap (λ v. option_or v None) h
next x xs w b (Some k) h = (h.0, h.1, ap (λ v. option_or v (cond b (Some x) None)) h.2)

placed : {X : Type 0} (p : X → Bool) (xs : List X) → IsPlaceOf xs (last_where p xs) (last_place p xs)
placed p [] = refl
placed p (x ∷ xs) = next x xs (last_where p xs) (p x) (last_place p xs) (placed p xs)

pub none_placed : {X : Type 0} (p : X → Bool) (xs : List X) → last_place p xs ≡ None → last_where p xs ≡ None
none_placed p xs e = subst (IsPlaceOf xs (last_where p xs)) e (placed p xs)

pub some_placed : {X : Type 0} (p : X → Bool) (xs : List X) (k : ℕ) → last_place p xs ≡ Some k → slice_get xs k ≡ last_where p xs
some_placed p xs k e = let h = subst (IsPlaceOf xs (last_where p xs)) e (placed p xs) in h.1 ∙ sym h.2

-- what `get` lends
pub copied_item : {X : Type 0} (xs : List X) (i : ℕ) (r : Option (Bor X)) → IsItemAt xs i r → option_copied r ≡ slice_get xs i
copied_item xs i None h = sym (slice_get_past xs i h.3)
copied_item xs i (Some x) h = ap Some h.1 ∙ sym (slice_get-get_or xs i x.now h.3.0)

-- a turn of a loop that writes the places down
pub last_place-take : {X : Type 0} (p : X → Bool) (xs : List X) (k : ℕ) (x : X) (b : Bool) (m : Option ℕ) → k < length xs → x ≡ get_or xs k x → b ≡ p x →
    m ≡ last_place p (take k xs) → cond b (Some k) m ≡ last_place p (take (k + 1) xs)
last_place-take p xs k x b m small at same before =
    let counted : length (take k xs) ≡ k = length-take-le k xs (omega arith) in
    rw (same, before, take_more xs k x small, ← at, last_place-push p (take k xs) x, counted)

-- a place, if it is one
abbrev pub one_if : Bool → ℕ → List ℕ
one_if b k = cond b (k ∷ []) []

map-one_if : (b : Bool) (k : ℕ) → map suc (one_if b k) ≡ one_if b (suc k)
map-one_if true k = refl
map-one_if false k = refl

-- one more at the end of the places of those that pass
pub places_where-push : {X : Type 0} (p : X → Bool) (xs : List X) (x : X) → places_where p (xs ++ x ∷ []) ≡ places_where p xs ++ one_if (p x) (length xs)
places_where-push p [] x = append-nil (one_if (p x) 0)
places_where-push p (y ∷ xs) x =
    let here = one_if (p y) 0 in
    ap (λ ks. here ++ map suc ks) (places_where-push p xs x)
    ∙ ap (λ ks. here ++ ks) (map-append suc (places_where p xs) (one_if (p x) (length xs)) ∙ ap (λ ks. map suc (places_where p xs) ++ ks) (map-one_if (p x) (length xs)))
    ∙ sym (append_assoc here (map suc (places_where p xs)) (one_if (p x) (suc (length xs))))

-- a turn of a loop that writes these places down
pub places_where-take : {X : Type 0} (p : X → Bool) (xs : List X) (k : ℕ) (x : X) (b : Bool) → k < length xs → x ≡ get_or xs k x → b ≡ p x →
    places_where p (take (k + 1) xs) ≡ places_where p (take k xs) ++ one_if b k
places_where-take p xs k x b small at same =
    let counted : length (take k xs) ≡ k = length-take-le k xs (omega arith) in
    rw (same, take_more xs k x small, ← at, places_where-push p (take k xs) x, counted)

later-places : {X : Type 0} (x : X) (xs : List X) (ks : List ℕ) → filter_map (slice_get (x ∷ xs)) (map suc ks) ≡ filter_map (slice_get xs) ks
later-places x xs [] = refl
later-places x xs (k ∷ ks) = ap (cons_option (slice_get xs k)) (later-places x xs ks)

-- what stands at these places is what passes
pub filter_map-places_where : {X : Type 0} (p : X → Bool) (xs : List X) → filter_map (slice_get xs) (places_where p xs) ≡ filter p xs
filter_map-places_where p [] = refl
filter_map-places_where p (x ∷ xs) =
    step (p x) (places_where p xs) ∙ ap (λ ys. cond (p x) (x ∷ ys) ys) (filter_map-places_where p xs)
  where
    step : (b : Bool) (ks : List ℕ) → filter_map (slice_get (x ∷ xs)) (one_if b 0 ++ map suc ks) ≡ cond b (x ∷ filter_map (slice_get xs) ks) (filter_map (slice_get xs) ks)
    step true ks = ap (λ ys. x ∷ ys) (later-places x xs ks)
    step false ks = later-places x xs ks

-- there is such a place just if something passes
pub places_where-any : {X : Type 0} (p : X → Bool) (xs : List X) → not (length (places_where p xs) == 0) ≡ list_any p xs
places_where-any p [] = refl
places_where-any p (x ∷ xs) = step (p x) (places_where-any p xs)
  where
    step : (b : Bool) → not (length (places_where p xs) == 0) ≡ list_any p xs → not (length (one_if b 0 ++ map suc (places_where p xs)) == 0) ≡ (b || list_any p xs)
    step true e = ap not (ne_eqb (suc (length (map suc (places_where p xs)))) 0 (omega arith))
    step false e = ap (λ n. not (n == 0)) (length-map (places_where p xs) suc) ∙ e
