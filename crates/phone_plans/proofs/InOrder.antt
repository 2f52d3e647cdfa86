-- The territories of a code, from those that have it in their order of arrival.
use Rattle.std.proofs.Common.{◌≡◌, ℕ, ◌+◌, not, Bool, true, false, cond, List, [], ◌∷◌, ◌++◌, length, filter, reverse, All, refl, ap, ap₂, sym, ◌∙◌, arith, length-append}
use Rattle.std.proofs.lemmas.List.{length-reverse}
use Rattle.std.proofs.lemmas.List.Elements.{All-append, All-filter}
use Rattle.std.proofs.lemmas.List.Sorted.{All-permutation, IsPermutation-reverse}
use Rattle.phone_plans.proofs.CodeLemmas.{filter-filter}
use Rattle.phone_plans.specs.CodeLookUps.{is_main, is_main_of, is_other, is_other_of, territories}
use Rattle.phone_plans.specs.Records.{has_code}
use Rattle.phone_records.specs.declared.loader.Metadata.{Metadata}

pub mains-filter : (code : ℕ) (db : List Metadata) → filter (is_main_of code) db ≡ filter is_main (filter (has_code code) db)
mains-filter code db = sym (filter-filter (has_code code) is_main db)

pub others-filter : (code : ℕ) (db : List Metadata) → filter (is_other_of code) db ≡ filter is_other (filter (has_code code) db)
others-filter code db = sym (filter-filter (has_code code) is_other db)

-- the territories of a code, of which all are given in order of arrival
abbrev pub in_order : List Metadata → List Metadata
in_order all = reverse (filter is_main all) ++ filter is_other all

pub territories-in_order : (code : ℕ) (db : List Metadata) → territories code db ≡ in_order (filter (has_code code) db)
territories-in_order code db = ap₂ (λ xs ys. reverse xs ++ ys) (mains-filter code db) (others-filter code db)

as_many : (all : List Metadata) → length (filter is_main all) + length (filter is_other all) ≡ length all
as_many [] = refl
as_many (m ∷ all) = step m.main_country_for_code (as_many all)
  where
    step : (b : Bool) → length (filter is_main all) + length (filter is_other all) ≡ length all →
        length (cond b (m ∷ filter is_main all) (filter is_main all)) + length (cond (not b) (m ∷ filter is_other all) (filter is_other all)) ≡ length (m ∷ all)
    step true e = omega (arith, e)
    step false e = omega (arith, e)

pub length-in_order : (all : List Metadata) → length (in_order all) ≡ length all
length-in_order all =
    length-append (reverse (filter is_main all)) (filter is_other all)
    ∙ ap (λ n. n + length (filter is_other all)) (length-reverse (filter is_main all))
    ∙ as_many all

pub alone : (m : Metadata) → in_order (m ∷ []) ≡ m ∷ []
alone m = step m.main_country_for_code
  where
    step : (b : Bool) → reverse (cond b (m ∷ []) []) ++ cond (not b) (m ∷ []) [] ≡ m ∷ []
    step true = refl
    step false = refl

-- what every record of a database has, the territories of a code have
pub All-territories : (Q : Metadata → Type 0) (db : List Metadata) → All Q db → (code : ℕ) → All Q (territories code db)
All-territories Q db h code =
    let mains = filter (is_main_of code) db in
    All-append Q (reverse mains) (filter (is_other_of code) db)
    (All-permutation Q mains (reverse mains) (IsPermutation-reverse mains) (All-filter (is_main_of code) Q db h))
    (All-filter (is_other_of code) Q db h)
