-- Rows of a table of short numbers, each with the last one of its id; and a code's territories, its
-- main ones before the others.
use Rattle.std.proofs.Common.{◌≡◌, not, IfSome, MatchOption, Option, None, Some, option_map, subst, ℕ, Bool, true, false, cond, List, [], ◌∷◌, ◌++◌, filter, map, reverse, unwrap_or, refl, ap, sym, ◌∙◌}
use Rattle.std.proofs.lemmas.List.{append_assoc, map-append, reverse-append}
use Rattle.std.proofs.lemmas.Option.{none-some}
use Rattle.std.specs.List.{AllByRecursion}
use Rattle.std.specs.Option.{option_and_then}
use Rattle.phone_plans.specs.CodeLookUps.{is_main, is_other, territories}
use Rattle.phone_plans.specs.Lasts.{last_of, with_last}
use Rattle.phone_plans.specs.Records.{has_code, last_with}
use Rattle.phone_plans.proofs.InOrder.{territories-in_order}
use Rattle.phone_records.specs.declared.loader.Metadata.{Metadata}
use Rattle.phone_short.specs.Regions.{record_of}
use Rattle.phone_territory.specs.Records.{id_of}
use Rattle.phone_values.specs.Ids as ids
use Rattle.phone_values.specs.declared.country.Id.{Id}
use Rattle.phone_values.proofs.Texts.{name-id_of}
use Rattle.phone_further.specs.ShortNumbers.{region_of}
use Rattle.phone_further.specs.ShortRecords.{IsWithLast}

-- territories with the last ones of their ids
pub all_with_last : (db ms : List Metadata) → AllByRecursion (IsWithLast db) (map (with_last db) ms)
all_with_last db [] = tt
all_with_last db (m ∷ ms) = (refl, all_with_last db ms)

-- a code's territories as they are asked, where some have been made already: the main ones that
-- are still to come go before these, the others after them
abbrev pub around : {Y : Type 0} → (Metadata → Y) → List Y → List Metadata → List Y
around f ys ms = map f (reverse (filter is_main ms)) ++ (ys ++ map f (filter is_other ms))

-- before any has been made
pub none_around : {Y : Type 0} (f : Metadata → Y) (code : ℕ) (db ms : List Metadata) → ms ≡ filter (has_code code) db → around f [] ms ≡ map f (territories code db)
none_around f code db ms are =
    ap (around f []) are
    ∙ sym (map-append f (reverse (filter is_main (filter (has_code code) db))) (filter is_other (filter (has_code code) db)))
    ∙ ap (map f) (sym (territories-in_order code db))

-- a main one is put before those that have been made
pub main_turn : {Y : Type 0} (f : Metadata → Y) (ys : List Y) (ms : List Metadata) (m : Metadata) (b : Bool) → b ≡ true → b ≡ m.main_country_for_code →
    around f ys (m ∷ ms) ≡ around f (f m ∷ ys) ms
main_turn f ys ms m b main is =
    ap (λ b. map f (reverse (cond b (m ∷ filter is_main ms) (filter is_main ms))) ++ (ys ++ map f (cond (not b) (m ∷ filter is_other ms) (filter is_other ms)))) (sym is ∙ main)
    ∙ ap (λ xs. map f xs ++ (ys ++ map f (filter is_other ms))) (reverse-append (m ∷ []) (filter is_main ms))
    ∙ ap (λ xs. xs ++ (ys ++ map f (filter is_other ms))) (map-append f (reverse (filter is_main ms)) (m ∷ []))
    ∙ append_assoc (map f (reverse (filter is_main ms))) (f m ∷ []) (ys ++ map f (filter is_other ms))

-- another is put behind them
pub other_turn : {Y : Type 0} (f : Metadata → Y) (ys : List Y) (ms : List Metadata) (m : Metadata) (b : Bool) → b ≡ false → b ≡ m.main_country_for_code →
    around f ys (m ∷ ms) ≡ around f (ys ++ f m ∷ []) ms
other_turn f ys ms m b other is =
    ap (λ b. map f (reverse (cond b (m ∷ filter is_main ms) (filter is_main ms))) ++ (ys ++ map f (cond (not b) (m ∷ filter is_other ms) (filter is_other ms)))) (sym is ∙ other)
    ∙ ap (λ xs. map f (reverse (filter is_main ms)) ++ xs) (sym (append_assoc ys (f m ∷ []) (map f (filter is_other ms))))

-- what holds of all, holds of the first, which is taken, and of the rest
pub first_and_rest : {X Y : Type 0} (f : X → Y) (P : Y → Type 0) (ys rest : List Y) (r : Option X) → AllByRecursion P ys →
    MatchOption r ((ys ≡ []) × (rest ≡ [])) (λ x. ys ≡ f x ∷ rest) → IfSome (option_map f r) P × AllByRecursion P rest
first_and_rest f P ys rest None all are = (tt, subst (AllByRecursion P) (sym are.1) tt)
first_and_rest f P ys rest (Some x) all are = subst (AllByRecursion P) are all

-- the name of a territory's region is its id
name_of_region : (m : Metadata) (r : Id) → region_of m ≡ Some r → id_of m ≡ ids.name r
name_of_region m r = step m.id
  where
    step : (id : Option (List ℕ)) → option_and_then ids.id_of id ≡ Some r → unwrap_or id [] ≡ ids.name r
    step None e = absurd (none-some r e)
    step (Some t) e = name-id_of t r e

-- the last territory of a region, by one that is of the region
pub record_of_last : (db : List Metadata) (t : Metadata) (last : Option Metadata) (r : Id) → region_of t ≡ Some r → IsWithLast db (t, last) → last ≡ record_of db r
record_of_last db t last r of is = is ∙ ap (λ id. last_with id db) (name_of_region t r of)
