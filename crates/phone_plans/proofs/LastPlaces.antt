-- The last territory of an id by the places of the last ones.
use Rattle.std.proofs.Common.{◌≡◌, ℕ, Bool, List, [], ◌∷◌, map, Option, None, Some, option_map, Result, Ok, Err, IfOk, refl, ap, sym, subst, ◌∙◌}
use Rattle.std.proofs.lemmas.Option.{slice_get-map}
use Rattle.std.specs.List.{cons_option, filter_map, slice_get}
use Rattle.std.specs.Option.{option_and_then, option_flatten}
use Rattle.phone_plans.specs.Lasts.{last_of, last_places}
use Rattle.phone_territory.specs.Records.{id_of}
use Rattle.phone_plans.specs.Records.{has_id, last_place, last_where}
use Rattle.phone_plans.proofs.Places.{none_placed, some_placed}
use Rattle.phone_records.specs.declared.loader.Metadata.{Metadata}
use Rattle.phone_index.specs.Orders.{place_of}
use Rattle.phone_index.specs.declared.sorted.Named.{Named}

-- the last that passes is what stands at its place
last_where-place : {X : Type 0} (p : X → Bool) (xs : List X) → last_where p xs ≡ option_and_then (slice_get xs) (last_place p xs)
last_where-place p xs = step (last_place p xs) refl
  where
    step : (o : Option ℕ) → last_place p xs ≡ o → last_where p xs ≡ option_and_then (slice_get xs) o
    step None e = none_placed p xs e
    step (Some k) e = sym (some_placed p xs k e)

-- the last territory of the id that the one at a place has
pub last_of-place : (db : List Metadata) (k : ℕ) → option_and_then (last_of db) (slice_get db k) ≡ option_and_then (slice_get db) (option_flatten (slice_get (last_places db) k))
last_of-place db k =
    step (slice_get db k)
    ∙ ap (λ o. option_and_then (slice_get db) (option_flatten o)) (sym (slice_get-map (λ m. last_place (has_id (id_of m)) db) db k))
  where
    step : (o : Option Metadata) → option_and_then (last_of db) o ≡ option_and_then (slice_get db) (option_flatten (option_map (λ m. last_place (has_id (id_of m)) db) o))
    step None = refl
    step (Some m) = last_where-place (has_id (id_of m)) db

made_of : {X Y : Type 0} (f : X → Y) (o : Option X) (xs : List X) → cons_option (option_map f o) (map f xs) ≡ map f (cons_option o xs)
made_of f None xs = refl
made_of f (Some x) xs = refl

-- what is made of each that stands at one of these places
pub filter_map-option_map : {X Y : Type 0} (f : X → Y) (g : ℕ → Option X) (ks : List ℕ) → filter_map (λ k. option_map f (g k)) ks ≡ map f (filter_map g ks)
filter_map-option_map f g [] = refl
filter_map-option_map f g (k ∷ ks) = ap (cons_option (option_map f (g k))) (filter_map-option_map f g ks) ∙ made_of f (g k) (filter_map g ks)

map-same : {X Y : Type 0} (f g : X → Y) (xs : List X) → ((x : X) → f x ≡ g x) → map f xs ≡ map g xs
map-same f g [] e = refl
map-same f g (x ∷ xs) e = rw (e x, map-same f g xs e) refl

-- the places that ids have where each id has the place of its last territory
pub both-last_places : {V E : Type 0} (places : V → List (Option ℕ)) (db : List Metadata) (by_id : List Named) (first : Result (List Named) E) (lasts : Result V E) (made : Result (List Named × V) E) →
    ((id : List ℕ) → place_of id by_id ≡ last_place (has_id id) db) → IfOk lasts (λ v. places v ≡ map (λ m. place_of (id_of m) by_id) db) →
    IfOk made (λ all. (first ≡ Ok all.0) × (lasts ≡ Ok all.1)) → IfOk made (λ all. places all.1 ≡ last_places db)
both-last_places places db by_id first lasts (Ok all) found of is =
    subst (λ r. IfOk r (λ v. places v ≡ map (λ m. place_of (id_of m) by_id) db)) is.1 of
    ∙ map-same (λ m. place_of (id_of m) by_id) (λ m. last_place (has_id (id_of m)) db) db (λ m. found (id_of m))
both-last_places places db by_id first lasts (Err e) found of is = tt
