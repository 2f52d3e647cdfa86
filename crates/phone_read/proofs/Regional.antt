-- The region of a number by the territories of its code, taken in order of arrival, each with the last one of its id.
use Rattle.std.proofs.Common.{◌≡◌, ℕ, suc, ◌+◌, ◌<◌, ◌&&◌, not, Bool, true, false, cond, if◌then◌else◌, List, [], ◌∷◌, ◌++◌, length, map, filter, reverse, Option, None, Some, option_map, unwrap_or, codes, refl, ap, ap₂, sym, subst, ◌∙◌, arith}
use Rattle.std.proofs.lemmas.List.{length-map, map-append, reverse-append}
use Rattle.std.proofs.lemmas.List.Elements.{filter-append}
use Rattle.std.proofs.lemmas.List.Folds.{find-append}
use Rattle.std.proofs.lemmas.Option.{none-some}
use Rattle.std.specs.List.{find}
use Rattle.std.specs.Option.{option_and_then, option_or}
use Rattle.std.specs.Str.{bytes_eq}
use Rattle.either.specs.declared.Either.{Either}
use Rattle.either.specs.declared.Either.TheVariants.{Left, Right}
use Rattle.phone_values.specs.Ids as ids
use Rattle.phone_values.specs.declared.country.Id.{Id}
use Rattle.phone_values.proofs.Texts.{name-id_of}
use Rattle.phone_plans.proofs.CodeLemmas.{filter-filter, map-reverse}
use Rattle.phone_plans.proofs.InOrder.{alone, in_order, length-in_order, territories-in_order}
use Rattle.phone_plans.specs.CodeLookUps.{first_of, is_main_of, is_other_of, regions, territories}
use Rattle.phone_plans.specs.Lasts.{with_last}
use Rattle.phone_territory.specs.Records.{id_of}
use Rattle.phone_plans.specs.Records.{has_code, last_with}
use Rattle.phone_read.proofs.TriedKinds.{find-map}
use Rattle.phone_read.specs.Origins.{Given, by_name, first_given, first_other, latest_main, told}
use Rattle.phone_read.specs.declared.validator.Origin.{Origin}
use Rattle.phone_read.specs.Regions.{is_of_last, is_of_region, region_among, region_named, region_of, territory_of, with_territory}
use Rattle.phone_records.specs.declared.loader.Metadata.{Metadata}

several : (db : List Metadata) (code : ℕ) (digits : List ℕ) (ids : List (List ℕ)) → 1 < length ids → region_among db code digits ids ≡ option_and_then region_named (find (is_of_region db digits) ids)
several db code digits [] h = absurd (omega (arith, h))
several db code digits (id ∷ []) h = absurd (omega (arith, h))
several db code digits (id ∷ other ∷ ids) h = refl

-- ---- an answer with its territory

-- the region of an answer, and its territory
region-with_territory : (db : List Metadata) (o : Option (Either Id ℕ)) → option_map (λ (r : Either Id ℕ × Option Metadata). r.0) (option_map (with_territory db) o) ≡ o
region-with_territory db None = refl
region-with_territory db (Some r) = refl

territory-with_territory : (db : List Metadata) (o : Option (Either Id ℕ)) →
    option_and_then (λ (r : Either Id ℕ × Option Metadata). r.1) (option_map (with_territory db) o) ≡ option_and_then (territory_of db) o
territory-with_territory db None = refl
territory-with_territory db (Some r) = refl

-- so they are told of what was found, at what it is
pub region_told : (db : List Metadata) (r : Option (Either Id ℕ)) (origin o : Option Origin) → option_map told origin ≡ option_map (with_territory db) r → origin ≡ o →
    option_map (λ (r : Either Id ℕ × Option Metadata). r.0) (option_map told o) ≡ r
region_told db r origin o found is = ap (option_map (λ (r : Either Id ℕ × Option Metadata). r.0)) (ap (option_map told) (sym is) ∙ found) ∙ region-with_territory db r

pub territory_told : (db : List Metadata) (r : Option (Either Id ℕ)) (origin o : Option Origin) → option_map told origin ≡ option_map (with_territory db) r → origin ≡ o →
    option_and_then (λ (r : Either Id ℕ × Option Metadata). r.1) (option_map told o) ≡ option_and_then (territory_of db) r
territory_told db r origin o found is =
    ap (option_and_then (λ (r : Either Id ℕ × Option Metadata). r.1)) (ap (option_map told) (sym is) ∙ found) ∙ territory-with_territory db r

-- a region that an id names has the last territory of that id
named-with_territory : (db : List Metadata) (id : List ℕ) → option_map (λ (r : Either Id ℕ). (r, last_with id db)) (region_named id) ≡ option_map (with_territory db) (region_named id)
named-with_territory db id = step (ids.id_of id) refl
  where
    step : (o : Option Id) → ids.id_of id ≡ o →
        option_map (λ (r : Either Id ℕ). (r, last_with id db)) (option_map (λ i. Left i) o) ≡ option_map (with_territory db) (option_map (λ i. Left i) o)
    step None e = refl
    step (Some i) e =
        let written : id ≡ ids.name i = name-id_of id i e in
        ap (λ t. Some (Left i, last_with t db)) written

-- what it is where the territory is its code's sole one
abbrev pub by_sole : ℕ → Given → Option (Either Id ℕ × Option Metadata)
by_sole code t = if bytes_eq (id_of t.0) (codes "001") then Some (Right code, Some t.0) else by_name t

by_name-with_last : (db : List Metadata) (m : Metadata) → by_name (with_last db m) ≡ option_map (with_territory db) (region_named (id_of m))
by_name-with_last db m = named-with_territory db (id_of m)

-- ---- no territory of a code, one, and several

map-none : {X Y : Type 0} (f : X → Y) (xs : List X) → map f xs ≡ [] → xs ≡ []
map-none f [] e = refl
map-none f (x ∷ xs) e = absurd (none-some (f x) (sym (ap first_of e)))

map-one : {X Y : Type 0} (f : X → Y) (xs : List X) (y : Y) → map f xs ≡ y ∷ [] → (x : X) × (xs ≡ x ∷ []) × (f x ≡ y)
map-one f [] y e = absurd (none-some y (ap first_of e))
map-one f (x ∷ []) y e = (x, refl, ap (λ ys. unwrap_or (first_of ys) y) e)
map-one f (x ∷ z ∷ xs) y e =
    let counted : suc (suc (length (map f xs))) ≡ 1 = ap length e in
    absurd (omega (arith, counted))

module _ (db : List Metadata) (code : ℕ) (digits : List ℕ) where
  abbrev given : List Metadata → List Given
  given ms = map (with_last db) ms

  pub no_origin : given (filter (has_code code) db) ≡ [] → option_map (with_territory db) (region_of db code digits) ≡ None
  no_origin e =
      let none = map-none (with_last db) (filter (has_code code) db) e in
      ap (λ ts. option_map (with_territory db) (region_among db code digits (map id_of ts))) (territories-in_order code db ∙ ap in_order none)

  one_origin : (m : Metadata) → territories code db ≡ m ∷ [] → by_sole code (with_last db m) ≡ option_map (with_territory db) (region_of db code digits)
  one_origin m e =
      step (bytes_eq (id_of m) (codes "001"))
      ∙ ap (λ ts. option_map (with_territory db) (region_among db code digits (map id_of ts))) (sym e)
    where
      step : (b : Bool) → (if b then Some (Right code, Some m) else by_name (with_last db m)) ≡ option_map (with_territory db) (if b then Some (Right code) else region_named (id_of m))
      step true = ap (λ ts. Some (Right code, first_of ts)) (sym e)
      step false = by_name-with_last db m

  pub sole_origin : (t : Given) → given (filter (has_code code) db) ≡ t ∷ [] → by_sole code t ≡ option_map (with_territory db) (region_of db code digits)
  sole_origin t e =
      let one = map-one (with_last db) (filter (has_code code) db) t e in
      subst (λ t. by_sole code t ≡ option_map (with_territory db) (region_of db code digits)) one.2
      (one_origin one.0 (territories-in_order code db ∙ ap in_order one.1 ∙ alone one.0))

  pub several_origins : (t u : Given) (rest : List Given) → given (filter (has_code code) db) ≡ t ∷ u ∷ rest →
      region_of db code digits ≡ option_and_then region_named (find (is_of_region db digits) (regions code db))
  several_origins t u rest e =
      let counted : length (regions code db) ≡ suc (suc (length rest)) =
      length-map (territories code db) id_of ∙ ap length (territories-in_order code db) ∙ length-in_order (filter (has_code code) db)
      ∙ sym (length-map (filter (has_code code) db) (with_last db)) ∙ ap length e in
      several db code digits (regions code db) (omega (arith, counted))

  -- the first id that the number belongs to is that of the first territory to the last one of whose id it belongs
  abbrev first_passing : Option Metadata
  first_passing = find (λ m. is_of_region db digits (id_of m)) (territories code db)

  find-given : find (is_of_last digits) (given (territories code db)) ≡ option_map (with_last db) first_passing
  find-given = find-map (with_last db) (is_of_last digits) (territories code db)

  pub found_origin : (found : Option Given) → found ≡ find (is_of_last digits) (given (territories code db)) →
      option_and_then by_name found ≡ option_map (with_territory db) (option_and_then region_named (find (is_of_region db digits) (regions code db)))
  found_origin found e =
      ap (option_and_then by_name) (e ∙ find-given) ∙ step first_passing
      ∙ ap (λ o. option_map (with_territory db) (option_and_then region_named o)) (sym (find-map id_of (is_of_region db digits) (territories code db)))
    where
      step : (o : Option Metadata) → option_and_then by_name (option_map (with_last db) o) ≡ option_map (with_territory db) (option_and_then region_named (option_map id_of o))
      step None = refl
      step (Some m) = by_name-with_last db m

-- the latest main one that passes, or else the earliest other
pub find-territories : {Y : Type 0} (p : Y → Bool) (f : Metadata → Y) (db : List Metadata) (code : ℕ) →
    find p (map f (territories code db)) ≡ option_or (find p (map f (reverse (filter (is_main_of code) db)))) (find p (map f (filter (is_other_of code) db)))
find-territories p f db code =
    ap (find p) (map-append f (reverse (filter (is_main_of code) db)) (filter (is_other_of code) db))
    ∙ find-append p (map f (reverse (filter (is_main_of code) db))) (map f (filter (is_other_of code) db))

-- ---- the two loops, over territories that are given with the last ones of their ids

abbrev is_main : Given → Bool
is_main t = t.0.main_country_for_code

abbrev is_other : Given → Bool
is_other t = not t.0.main_country_for_code

-- a turn of the loop that looks for it from the back, by the answer to the question that the turn asks
pub latest_main-turn : (p : Given → Bool) (t : Given) (all ts : List Given) (start answer : Option Given) → start ≡ latest_main p all → all ≡ ts ++ t ∷ [] →
    answer ≡ cond (t.0.main_country_for_code && p t) (Some t) None → start ≡ option_or answer (latest_main p ts)
latest_main-turn p t all ts start answer was steps asked =
    was
    ∙ ap (latest_main p) steps
    ∙ ap (λ xs. find p (reverse xs)) (filter-append is_main ts (t ∷ []))
    ∙ ap (find p) (reverse-append (filter is_main ts) (filter is_main (t ∷ [])))
    ∙ find-append p (reverse (filter is_main (t ∷ []))) (reverse (filter is_main ts))
    ∙ ap (λ o. option_or o (latest_main p ts)) (step (is_main t) ∙ sym asked)
  where
    step : (b : Bool) → find p (reverse (cond b (t ∷ []) [])) ≡ cond (b && p t) (Some t) None
    step true = refl
    step false = refl

-- a turn of the loop that looks for it
pub first_other-turn : (p : Given → Bool) (t : Given) (all ts : List Given) (start answer : Option Given) → start ≡ first_other p all → all ≡ t ∷ ts →
    answer ≡ cond (not t.0.main_country_for_code && p t) (Some t) None → start ≡ option_or answer (first_other p ts)
first_other-turn p t all ts start answer was steps asked =
    was ∙ ap (first_other p) steps ∙ step (is_other t) ∙ ap (λ o. option_or o (first_other p ts)) (sym asked)
  where
    passed : (b : Bool) → cond b (Some t) (first_other p ts) ≡ option_or (cond b (Some t) None) (first_other p ts)
    passed true = refl
    passed false = refl

    step : (b : Bool) → find p (cond b (t ∷ filter is_other ts) (filter is_other ts)) ≡ option_or (cond (b && p t) (Some t) None) (first_other p ts)
    step true = passed (p t)
    step false = refl

-- those of a list that pass, and what is made of them
map-filter : {X Y : Type 0} (f : X → Y) (q : Y → Bool) (xs : List X) → map f (filter (λ x. q (f x)) xs) ≡ filter q (map f xs)
map-filter f q [] = refl
map-filter f q (x ∷ xs) = step (q (f x)) (map-filter f q xs)
  where
    step : (b : Bool) → map f (filter (λ x. q (f x)) xs) ≡ filter q (map f xs) →
        map f (cond b (x ∷ filter (λ x. q (f x)) xs) (filter (λ x. q (f x)) xs)) ≡ cond b (f x ∷ filter q (map f xs)) (filter q (map f xs))
    step true e = ap (λ ys. f x ∷ ys) e
    step false e = e

-- before the loops, over the territories of a code
module _ (db : List Metadata) (code : ℕ) (p : Given → Bool) (ts : List Given) (are : ts ≡ map (with_last db) (filter (has_code code) db)) where
  given-filter : (q : Given → Bool) → map (with_last db) (filter (λ m. has_code code m && q (with_last db m)) db) ≡ filter q ts
  given-filter q =
      ap (map (with_last db)) (sym (filter-filter (has_code code) (λ m. q (with_last db m)) db))
      ∙ map-filter (with_last db) q (filter (has_code code) db)
      ∙ ap (filter q) (sym are)

  pub latest_main-first : find p (map (with_last db) (reverse (filter (is_main_of code) db))) ≡ latest_main p ts
  latest_main-first = ap (find p) (map-reverse (with_last db) (filter (is_main_of code) db) ∙ ap reverse (given-filter is_main))

  pub first_other-first : find p (map (with_last db) (filter (is_other_of code) db)) ≡ first_other p ts
  first_other-first = ap (find p) (given-filter is_other)

-- the origin of a number by several territories of its code
pub several_found : (db : List Metadata) (code : ℕ) (digits : List ℕ) (t u : Given) (ts all : List Given) → all ≡ map (with_last db) (filter (has_code code) db) → all ≡ t ∷ u ∷ ts →
    option_and_then by_name (first_given (is_of_last digits) all) ≡ option_map (with_territory db) (region_of db code digits)
several_found db code digits t u ts all are two =
    found_origin db code digits (first_given p all)
    (ap₂ option_or (sym (latest_main-first db code p all are)) (sym (first_other-first db code p all are)) ∙ sym (find-territories p (with_last db) db code))
    ∙ ap (option_map (with_territory db)) (sym (several_origins db code digits t u ts (sym are ∙ two)))
  where
    p : Given → Bool
    p = is_of_last digits
