-- The only one of a list that passes, as one after the other is tried; and the country of digits.
use Rattle.std.proofs.Common.{◌≡◌, ℕ, Bool, true, false, cond, List, [], ◌∷◌, ◌++◌, filter, Option, None, Some, ap, sym, ◌∙◌}
use Rattle.phone_places.specs.Countries.{candidates, knows, sole}
use Rattle.phone_plans.specs.Records.{has_code}
use Rattle.phone_records.specs.declared.loader.Metadata.{Metadata}

-- what was found so far, as a list
abbrev pub held : {X : Type 0} → Option X → List X
held None = []
held (Some x) = x ∷ []

module _ {X : Type 0} (p : X → Bool) (x : X) (xs : List X) where
  filter-keeps : p x ≡ true → filter p (x ∷ xs) ≡ x ∷ filter p xs
  filter-keeps e = ap (λ b. cond b (x ∷ filter p xs) (filter p xs)) e

  filter-drops : p x ≡ false → filter p (x ∷ xs) ≡ filter p xs
  filter-drops e = ap (λ b. cond b (x ∷ filter p xs) (filter p xs)) e

-- whole: those that pass
module _ {X : Type 0} (p : X → Bool) (whole all xs : List X) (x : X) (steps : all ≡ x ∷ xs) where
  -- the first that passes
  pub first_passes : whole ≡ held None ++ filter p all → p x ≡ true → whole ≡ held (Some x) ++ filter p xs
  first_passes was passes = was ∙ ap (filter p) steps ∙ filter-keeps p x xs passes

  -- a second one
  pub second_passes : (y : X) → whole ≡ held (Some y) ++ filter p all → p x ≡ true → sole whole ≡ None
  second_passes y was passes = ap sole (was ∙ ap (λ ys. y ∷ filter p ys) steps ∙ ap (λ ys. y ∷ ys) (filter-keeps p x xs passes))

  -- one that doesn't
  pub none_passes : (found : Option X) → whole ≡ held found ++ filter p all → p x ≡ false → whole ≡ held found ++ filter p xs
  none_passes found was fails = was ∙ ap (λ ys. held found ++ filter p ys) steps ∙ ap (λ ys. held found ++ ys) (filter-drops p x xs fails)

pub none_left : {X : Type 0} (p : X → Bool) (whole all : List X) (found : Option X) → whole ≡ held found ++ filter p all → all ≡ [] → sole whole ≡ found
none_left p whole all None was end = ap sole (was ∙ ap (filter p) end)
none_left p whole all (Some x) was end = ap sole (was ∙ ap (λ ys. x ∷ filter p ys) end)

-- no territory of a code, one, and several
module _ (db : List Metadata) (code : ℕ) (digits : List ℕ) where
  pub no_country : filter (has_code code) db ≡ [] → sole (candidates digits (filter (has_code code) db)) ≡ None
  no_country e = ap (λ ms. sole (candidates digits ms)) e

  pub sole_country : (m : Metadata) → filter (has_code code) db ≡ m ∷ [] → sole (candidates digits (filter (has_code code) db)) ≡ Some m
  sole_country m e = ap (λ ms. sole (candidates digits ms)) e

  pub known_country : (m n : Metadata) (ms : List Metadata) → filter (has_code code) db ≡ m ∷ n ∷ ms →
      sole (filter (knows digits) (filter (has_code code) db)) ≡ sole (candidates digits (filter (has_code code) db))
  known_country m n ms e = ap (λ os. sole (filter (knows digits) os)) e ∙ sym (ap (λ os. sole (candidates digits os)) e)
