-- The lowest calling code with a territory that gives an example.
use Rattle.std.proofs.Common.{◌≡◌, ◌⊎◌, inl, inr, ℕ, ◌<◌, ◌≤◌, ◌&&◌, ◌||◌, not, nat_lt, Bool, true, false, if◌then◌else◌, cond, List, [], ◌∷◌, filter, map, reverse, Option, None, Some, MatchOption, option_map, is_some, codes, refl, ap, ap₂, sym, subst, ◌∙◌, arith, true≢false, ltb-true}
use Rattle.std.proofs.Math.Bool.{or_assoc}
use Rattle.std.proofs.lemmas.Bool.{eqb-true, eq-eqb, ltb-false, ne_eqb, or_left, or_right}
use Rattle.std.proofs.lemmas.List.Folds.{list_any-append}
use Rattle.std.proofs.lemmas.List.Sorted.{IsPermutation-reverse, list_any-IsPermutation}
use Rattle.std.proofs.lemmas.Option.{none-some, same_Some}
use Rattle.std.specs.List.{list_any}
use Rattle.std.specs.Option.{option_and_then, option_or}
use Rattle.std.specs.Str.{bytes_eq}
use Rattle.phone_values.specs.declared.kind.«Type».{«Type»}
use Rattle.phone_plans.specs.CodeLookUps.{first_of, is_main_of, is_other_of, territories}
use Rattle.phone_plans.specs.Records.{has_code}
use Rattle.phone_records.specs.Missing.{first_given}
use Rattle.phone_records.specs.declared.loader.Metadata.{Metadata}
use Rattle.phone_territory.specs.Records.{code_of, id_of}
use Rattle.phone_further.specs.Examples.{coded, example_in, first_example, if_worldwide}
use Rattle.phone_further.specs.Lowest
use Rattle.phone_further.specs.Lowest.{IsLeast, IsLowest, example_of_code, example_of_regions, gives, is_lower, is_served, region_example, serves, some_passes}

-- ---- the lowest of those that pass

-- the lowest code of those territories that pass, and of what was found before
abbrev pub lowest_from : (Metadata → Bool) → List Metadata → Option ℕ → Option ℕ
lowest_from passes [] low = low
lowest_from passes (m ∷ ms) low = lowest_from passes ms (if is_lower (code_of m) low && passes m then Some (code_of m) else low)

-- the lower of a code and of what was found before
abbrev lower : ℕ → Option ℕ → Option ℕ
lower code low = if is_lower code low then Some code else low

and_true : (a : Bool) → (a && true) ≡ a
and_true true = refl
and_true false = refl

and_false : (a : Bool) → (a && false) ≡ false
and_false true = refl
and_false false = refl

record IsLower (code : ℕ) (low : Option ℕ) : Type 0 where
  found : ℕ
  is : lower code low ≡ Some found
  below : found ≤ code
  which : (found ≡ code) ⊎ (low ≡ Some found)
  least : (l : ℕ) → low ≡ Some l → found ≤ l

lower_is : (code : ℕ) (low : Option ℕ) → IsLower code low
lower_is code None = record { found = code; is = refl; below = omega arith; which = inl refl; least = λ l e. absurd (none-some l e) }
lower_is code (Some low) = at (nat_lt code low) refl
  where
    same : (l : ℕ) → Some low ≡ Some l → low ≡ l
    same l e = same_Some low l e

    at : (b : Bool) → nat_lt code low ≡ b → IsLower code (Some low)
    at true e =
        let less = ltb-true code low e in
        record { found = code; is = ap (λ b. if b then Some code else Some low) e; below = omega arith; which = inl refl; least = λ l h. let s = same l h in omega (arith, less, s) }
    at false e = record {
      found = low;
      is = ap (λ b. if b then Some code else Some low) e;
      below = ltb-false code low e;
      which = inr refl;
      least = λ l h. let s = same l h in omega (arith, s);
    }

module _ (p : Metadata → Bool) where
  -- what a walk over territories finds
  abbrev pub Found : List Metadata → Option ℕ → Option ℕ → Type 0
  Found ms low r = MatchOption r ((low ≡ None) × ((d : ℕ) → some_passes p d ms ≡ false))
      (λ c. ((low ≡ Some c) ⊎ (some_passes p c ms ≡ true)) × ((d : ℕ) → d < c → some_passes p d ms ≡ false) × ((l : ℕ) → low ≡ Some l → c ≤ l))

  none_yet : (low : Option ℕ) → Found [] low low
  none_yet None = (refl, λ d. refl)
  none_yet (Some c) = (inl refl, (λ d h. refl), λ l e. let s = same_Some c l e in omega (arith, s))

  -- one more that doesn't pass
  unpassed : (m : Metadata) (ms : List Metadata) → p m ≡ false → (d : ℕ) → some_passes p d (m ∷ ms) ≡ some_passes p d ms
  unpassed m ms e d = ap (λ b. (has_code d m && b) || some_passes p d ms) e ∙ at (has_code d m)
    where
      at : (b : Bool) → ((b && false) || some_passes p d ms) ≡ some_passes p d ms
      at true = refl
      at false = refl

  skipped : (m : Metadata) (ms : List Metadata) (low r : Option ℕ) → p m ≡ false → Found ms low r → Found (m ∷ ms) low r
  skipped m ms low None e h = (h.0, λ d. unpassed m ms e d ∙ h.1 d)
  skipped m ms low (Some c) e h = (left h.0, (λ d less. unpassed m ms e d ∙ h.1 d less), h.2)
    where
      left : (low ≡ Some c) ⊎ (some_passes p c ms ≡ true) → (low ≡ Some c) ⊎ (some_passes p c (m ∷ ms) ≡ true)
      left (inl k) = inl k
      left (inr k) = inr (unpassed m ms e c ∙ k)

  -- one more that passes
  passed : (m : Metadata) (ms : List Metadata) (low r : Option ℕ) → p m ≡ true → Found ms (lower (code_of m) low) r → Found (m ∷ ms) low r
  passed m ms low None e h = let x = lower_is (code_of m) low in absurd (none-some x.found (sym h.0 ∙ x.is))
  passed m ms low (Some c) e h =
      let x = lower_is (code_of m) low in
      let at_most : c ≤ x.found = h.2 x.found x.is in
      (first x h.0, (λ d less. others x at_most d less), λ l k. let q = x.least l k in omega (arith, at_most, q))
    where
      here : (d : ℕ) → some_passes p d (m ∷ ms) ≡ (has_code d m || some_passes p d ms)
      here d = ap (λ b. (has_code d m && b) || some_passes p d ms) e ∙ at (has_code d m)
        where
          at : (b : Bool) → ((b && true) || some_passes p d ms) ≡ (b || some_passes p d ms)
          at true = refl
          at false = refl

      first : IsLower (code_of m) low → (lower (code_of m) low ≡ Some c) ⊎ (some_passes p c ms ≡ true) → (low ≡ Some c) ⊎ (some_passes p c (m ∷ ms) ≡ true)
      first x (inr k) = inr (here c ∙ or_right (has_code c m) (some_passes p c ms) k)
      first x (inl k) = which (same_Some x.found c (sym x.is ∙ k)) x.which
        where
          which : x.found ≡ c → (x.found ≡ code_of m) ⊎ (low ≡ Some x.found) → (low ≡ Some c) ⊎ (some_passes p c (m ∷ ms) ≡ true)
          which s (inl q) = inr (here c ∙ or_left (has_code c m) (some_passes p c ms) (eq-eqb (code_of m) c (sym q ∙ s)))
          which s (inr q) = inl (q ∙ ap Some s)

      others : (x : IsLower (code_of m) low) → c ≤ x.found → (d : ℕ) → d < c → some_passes p d (m ∷ ms) ≡ false
      others x at_most d less =
          let b = x.below in
          here d ∙ ap (λ v. v || some_passes p d ms) (ne_eqb (code_of m) d (omega (arith, at_most, less, b))) ∙ h.1 d less

  abbrev next : Metadata → Option ℕ → Bool → Option ℕ
  next m low b = if is_lower (code_of m) low && b then Some (code_of m) else low

  if_passed : (m : Metadata) (low : Option ℕ) → next m low true ≡ lower (code_of m) low
  if_passed m low = ap (λ b. if b then Some (code_of m) else low) (and_true (is_lower (code_of m) low))

  if_not : (m : Metadata) (low : Option ℕ) → next m low false ≡ low
  if_not m low = ap (λ b. if b then Some (code_of m) else low) (and_false (is_lower (code_of m) low))

  pub walk : (ms : List Metadata) (low : Option ℕ) → Found ms low (lowest_from p ms low)
  walk [] low = none_yet low
  walk (m ∷ ms) low = at (p m) refl (walk ms (lower (code_of m) low)) (walk ms low)
    where
      at : (b : Bool) → p m ≡ b → Found ms (lower (code_of m) low) (lowest_from p ms (lower (code_of m) low)) → Found ms low (lowest_from p ms low) →
          Found (m ∷ ms) low (lowest_from p ms (next m low b))
      at true e more others = subst (λ n. Found (m ∷ ms) low (lowest_from p ms n)) (sym (if_passed m low))
          (passed m ms low (lowest_from p ms (lower (code_of m) low)) e more)
      at false e more others = subst (λ n. Found (m ∷ ms) low (lowest_from p ms n)) (sym (if_not m low)) (skipped m ms low (lowest_from p ms low) e others)

  from_walk : (ms : List Metadata) (r : Option ℕ) → Found ms None r → IsLeast p ms r
  from_walk ms None h = h.1
  from_walk ms (Some c) h = (there h.0, h.1)
    where
      there : (None ≡ Some c) ⊎ (some_passes p c ms ≡ true) → some_passes p c ms ≡ true
      there (inl e) = absurd (none-some c e)
      there (inr e) = e

  pub least : (ms : List Metadata) (r : Option ℕ) → r ≡ lowest_from p ms None → IsLeast p ms r
  least ms r e = subst (IsLeast p ms) (sym e) (from_walk ms (lowest_from p ms None) (walk ms None))

-- ---- what the lowest code has

some_is : {X : Type 0} (o : Option X) → is_some o ≡ false → o ≡ None
some_is None e = refl
some_is (Some x) e = absurd (true≢false e)

module _ {X : Type 0} (of : ℕ → Option X) (p : Metadata → Bool) (db : List Metadata) (link : (c : ℕ) → is_some (of c) ≡ some_passes p c db) where
  at_code : (c : ℕ) (o : Option X) → of c ≡ o → c < 65536 → IsLeast p db (Some c) → IsLowest of o
  at_code c None e fits h = absurd (true≢false (sym h.0 ∙ sym (link c) ∙ ap is_some e))
  at_code c (Some x) e fits h = Lowest.found c x fits (λ d less. some_is (of d) (link d ∙ h.1 d less)) e

  pub some_lowest : (c : ℕ) (o : Option X) → c < 65536 → IsLeast p db (Some c) → o ≡ of c → IsLowest of o
  some_lowest c o fits h e = subst (IsLowest of) (sym e) (at_code c (of c) refl fits h)

  pub none_lowest : IsLeast p db None → IsLowest of None
  none_lowest h = Lowest.none (λ code less. some_is (of code) (link code ∙ h code))

-- ---- territories of a code

some_given : {X : Type 0} (os : List (Option X)) → is_some (first_given os) ≡ list_any is_some os
some_given [] = refl
some_given (None ∷ os) = some_given os
some_given (Some x ∷ os) = refl

any_mapped : {X Y : Type 0} (f : X → Option Y) (xs : List X) → list_any is_some (map f xs) ≡ list_any (λ x. is_some (f x)) xs
any_mapped f [] = refl
any_mapped f (x ∷ xs) = ap (λ b. is_some (f x) || b) (any_mapped f xs)

any_same : (f g : Metadata → Bool) → ((m : Metadata) → f m ≡ g m) → (ms : List Metadata) → list_any f ms ≡ list_any g ms
any_same f g same [] = refl
any_same f g same (m ∷ ms) = ap₂ (λ a b. a || b) (same m) (any_same f g same ms)

module _ (g : Metadata → Bool) (code : ℕ) where
  both : (v x y : Bool) → (x || (v || y)) ≡ (v || (x || y))
  both true true y = refl
  both true false y = refl
  both false x y = refl

  parted : (db : List Metadata) → (list_any g (filter (is_main_of code) db) || list_any g (filter (is_other_of code) db)) ≡ some_passes g code db
  parted [] = refl
  parted (m ∷ ms) =
      at (has_code code m) m.main_country_for_code (filter (is_main_of code) ms) (filter (is_other_of code) ms) ∙ ap (λ b. (has_code code m && g m) || b) (parted ms)
    where
      at : (b a : Bool) (mains others : List Metadata) →
          (list_any g (cond (b && a) (m ∷ mains) mains) || list_any g (cond (b && not a) (m ∷ others) others))
          ≡ ((b && g m) || (list_any g mains || list_any g others))
      at false a mains others = refl
      at true true mains others = or_assoc (g m) (list_any g mains) (list_any g others)
      at true false mains others = both (g m) (list_any g mains) (list_any g others)

  pub any_territory : (db : List Metadata) → list_any g (territories code db) ≡ some_passes g code db
  any_territory db =
      list_any-append g (reverse (filter (is_main_of code) db)) (filter (is_other_of code) db)
      ∙ ap (λ b. b || list_any g (filter (is_other_of code) db))
      (sym (list_any-IsPermutation g (filter (is_main_of code) db) (reverse (filter (is_main_of code) db)) (IsPermutation-reverse (filter (is_main_of code) db))))
      ∙ parted db

-- ---- examples

module _ (db : List Metadata) (k : «Type») where
  pub region_link : (c : ℕ) → is_some (example_of_regions db k c) ≡ some_passes (gives k) c db
  region_link c =
      some_given (map (region_example k) (territories c db)) ∙ any_mapped (region_example k) (territories c db) ∙ any_territory (gives k) c db

  abbrev worldwide : Metadata → Bool
  worldwide m = is_served k m

  coded_first : (c : ℕ) (ms : List Metadata) →
      is_some (option_map (coded c) (option_and_then (λ m. first_example m (k ∷ [])) (option_and_then if_worldwide (first_of ms)))) ≡ true →
      list_any worldwide ms ≡ true
  coded_first c [] e = absurd (true≢false (sym e))
  coded_first c (m ∷ ms) e = at (bytes_eq (id_of m) (codes "001")) e
    where
      by : (o : Option (List ℕ)) → is_some (option_map (coded c) (option_or o None)) ≡ true → ((is_some o && true) || list_any worldwide ms) ≡ true
      by (Some t) h = refl
      by None h = absurd (true≢false (sym h))

      at : (b : Bool) → is_some (option_map (coded c) (option_and_then (λ n. first_example n (k ∷ [])) (if b then Some m else None))) ≡ true →
          ((is_some (example_in m k) && is_some (if b then Some m else None)) || list_any worldwide ms) ≡ true
      at true h = by (example_in m k) h
      at false h = absurd (true≢false (sym h))

  pointed : (c : ℕ) (m : Metadata) (b : Bool) → is_some (example_of_code db k c) ≡ b →
      (has_code c m && (worldwide m && is_some (example_of_code db k (code_of m)))) ≡ (has_code c m && (worldwide m && b))
  pointed c m b e = by (has_code c m) refl
    where
      by : (h : Bool) → has_code c m ≡ h → (h && (worldwide m && is_some (example_of_code db k (code_of m)))) ≡ (h && (worldwide m && b))
      by true h = ap (λ v. worldwide m && v) (ap (λ d. is_some (example_of_code db k d)) (eqb-true (code_of m) c h) ∙ e)
      by false h = refl

  both_true : (a b : Bool) → (a && (b && true)) ≡ (a && b)
  both_true a b = ap (λ v. a && v) (and_true b)

  both_false : (a b : Bool) → (a && (b && false)) ≡ false
  both_false a b = ap (λ v. a && v) (and_false b) ∙ and_false a

  none_any : (ms : List Metadata) → list_any (λ (m : Metadata). false) ms ≡ false
  none_any [] = refl
  none_any (m ∷ ms) = none_any ms

  pub code_link : (c : ℕ) → is_some (example_of_code db k c) ≡ some_passes (serves db k) c db
  code_link c = at (is_some (example_of_code db k c)) refl
    where
      at : (b : Bool) → is_some (example_of_code db k c) ≡ b → is_some (example_of_code db k c) ≡ some_passes (serves db k) c db
      at true e =
          e ∙ sym (any_same (λ m. has_code c m && (worldwide m && is_some (example_of_code db k (code_of m)))) (λ m. has_code c m && worldwide m)
          (λ m. pointed c m true e ∙ both_true (has_code c m) (worldwide m)) db
          ∙ sym (any_territory worldwide c db) ∙ coded_first c (territories c db) e)
      at false e =
          e ∙ sym (any_same (λ m. has_code c m && (worldwide m && is_some (example_of_code db k (code_of m)))) (λ m. false)
          (λ m. pointed c m false e ∙ both_false (has_code c m) (worldwide m)) db ∙ none_any db)
