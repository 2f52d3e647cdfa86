-- The territory that has digits, by the territories of a code in their order of arrival.
use Rattle.std.proofs.Common.{◌≡◌, ℕ, suc, ◌<◌, ◌&&◌, not, Bool, true, false, cond, if◌then◌else◌, List, [], ◌∷◌, length, filter, reverse, Option, None, Some, refl, ap, sym, ◌∙◌, arith}
use Rattle.std.proofs.lemmas.List.{reverse-append}
use Rattle.std.proofs.lemmas.List.Folds.{find-append}
use Rattle.std.specs.List.{find}
use Rattle.std.specs.Option.{option_or}
use Rattle.phone_library.specs.Kinds.{has_digits, territory_among, territory_in}
use Rattle.phone_plans.proofs.InOrder.{alone, in_order, length-in_order, mains-filter, others-filter, territories-in_order}
use Rattle.phone_plans.specs.CodeLookUps.{is_main, is_main_of, is_other, is_other_of, territories}
use Rattle.phone_plans.specs.Records.{has_code}
use Rattle.phone_records.specs.declared.loader.Metadata.{Metadata}

among_several : (digits : List ℕ) (ms : List Metadata) → 1 < length ms → territory_among digits ms ≡ find (has_digits digits) ms
among_several digits [] h = absurd (omega (arith, h))
among_several digits (m ∷ []) h = absurd (omega (arith, h))
among_several digits (m ∷ n ∷ ms) h = refl

-- no territory of a code, one, and several
module _ (db : List Metadata) (code : ℕ) (digits : List ℕ) where
  pub no_territory : filter (has_code code) db ≡ [] → territory_in db code digits ≡ None
  no_territory e = ap (territory_among digits) (territories-in_order code db ∙ ap in_order e)

  pub sole_territory : (m : Metadata) → filter (has_code code) db ≡ m ∷ [] → territory_in db code digits ≡ Some m
  sole_territory m e = ap (territory_among digits) (territories-in_order code db ∙ ap in_order e ∙ alone m)

  pub several_territories : (m n : Metadata) (ms : List Metadata) → filter (has_code code) db ≡ m ∷ n ∷ ms →
      territory_in db code digits ≡ find (has_digits digits) (territories code db)
  several_territories m n ms e =
      let counted : length (territories code db) ≡ suc (suc (length ms)) =
      ap length (territories-in_order code db) ∙ length-in_order (filter (has_code code) db) ∙ ap length e in
      among_several digits (territories code db) (omega (arith, counted))

-- the latest main one that passes, or else the earliest other
pub find-territories : (p : Metadata → Bool) (db : List Metadata) (code : ℕ) →
    find p (territories code db) ≡ option_or (find p (reverse (filter (is_main_of code) db))) (find p (filter (is_other_of code) db))
find-territories p db code = find-append p (reverse (filter (is_main_of code) db)) (filter (is_other_of code) db)

-- ---- the two loops over the territories of a code

-- the last main one that passes, of those still to come, or else what was found so far
abbrev pub last_main : (Metadata → Bool) → List Metadata → Option Metadata → Option Metadata
last_main p ms found = option_or (find p (reverse (filter is_main ms))) found

-- the first other one that passes, of those still to come
abbrev pub first_other : (Metadata → Bool) → List Metadata → Option Metadata
first_other p ms = find p (filter is_other ms)

-- a territory, if it is asked and passes
abbrev pub if_asked : (Metadata → Bool) → Metadata → Bool → Option Metadata
if_asked p m asked = if asked && p m then Some m else None

or_none : {X : Type 0} (o : Option X) → o ≡ option_or o None
or_none None = refl
or_none (Some x) = refl

-- before the loops
module _ (db : List Metadata) (code : ℕ) (p : Metadata → Bool) (ms : List Metadata) (are : ms ≡ filter (has_code code) db) where
  pub last_main-first : find p (reverse (filter (is_main_of code) db)) ≡ last_main p ms None
  last_main-first = ap (λ xs. find p (reverse xs)) (mains-filter code db ∙ ap (filter is_main) (sym are)) ∙ or_none (find p (reverse (filter is_main ms)))

  pub first_other-first : find p (filter (is_other_of code) db) ≡ first_other p ms
  first_other-first = ap (find p) (others-filter code db ∙ ap (filter is_other) (sym are))

-- one main territory more comes before those before it
later_main : (p : Metadata → Bool) (m : Metadata) (ms : List Metadata) (found : Option Metadata) →
    option_or (find p (reverse (m ∷ ms))) found ≡ option_or (find p (reverse ms)) (option_or (if_asked p m true) found)
later_main p m ms found =
    ap (λ o. option_or o found) (ap (find p) (reverse-append (m ∷ []) ms) ∙ find-append p (reverse ms) (m ∷ []))
    ∙ step (find p (reverse ms)) (p m)
  where
    step : (o : Option Metadata) (b : Bool) → option_or (option_or o (cond b (Some m) None)) found ≡ option_or o (option_or (cond b (Some m) None) found)
    step None b = refl
    step (Some n) b = refl

-- a turn of each loop
pub last_main-turn : (p : Metadata → Bool) (m : Metadata) (all ms : List Metadata) (found start answer : Option Metadata) →
    start ≡ last_main p all found → all ≡ m ∷ ms → answer ≡ if_asked p m m.main_country_for_code → start ≡ last_main p ms (option_or answer found)
last_main-turn p m all ms found start answer was steps is =
    was ∙ ap (λ ms. last_main p ms found) steps ∙ step m.main_country_for_code ∙ ap (λ o. last_main p ms (option_or o found)) (sym is)
  where
    step : (main : Bool) → option_or (find p (reverse (cond main (m ∷ filter is_main ms) (filter is_main ms)))) found ≡ last_main p ms (option_or (if_asked p m main) found)
    step true = later_main p m (filter is_main ms) found
    step false = refl

pub first_other-turn : (p : Metadata → Bool) (m : Metadata) (all ms : List Metadata) (start answer : Option Metadata) →
    start ≡ first_other p all → all ≡ m ∷ ms → answer ≡ if_asked p m (not m.main_country_for_code) → start ≡ option_or answer (first_other p ms)
first_other-turn p m all ms start answer was steps is =
    was ∙ ap (first_other p) steps ∙ step (not m.main_country_for_code) ∙ ap (λ o. option_or o (first_other p ms)) (sym is)
  where
    step : (asked : Bool) → find p (cond asked (m ∷ filter is_other ms) (filter is_other ms)) ≡ option_or (if_asked p m asked) (first_other p ms)
    step true = at (p m)
      where
        at : (b : Bool) → cond b (Some m) (first_other p ms) ≡ option_or (cond b (Some m) None) (first_other p ms)
        at true = refl
        at false = refl
    step false = refl
