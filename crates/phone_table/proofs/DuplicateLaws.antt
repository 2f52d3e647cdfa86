-- Of the records that share a key one is the first, and each other one names it.
use Rattle.std.proofs.Common.{◌≡◌, ℕ, zero, suc, ◌+◌, ◌==◌, ◌<◌, ◌≤◌, Bool, true, false, List, [], ◌∷◌, Option, None, Some, slice_get, option_map, refl, sym, ap, subst, ◌∙◌, arith, bytes_eq, true≢false, eqb-true}
use Rattle.std.proofs.lemmas.Bool.{eq-eqb}
use Rattle.std.proofs.lemmas.Option.{none-some, same_Some}
use Rattle.std.proofs.lemmas.Slice.Eq.{bytes_eq-Decides}
use Rattle.std.specs.List.{count_by, position_from}
use Rattle.std.specs.Option.{option_and_then, option_map_or}
use Rattle.phone_table.specs.Answered.{Answered, has_key}
use Rattle.phone_table.specs.Duplicates.{NamesFirst, duplicate_of, shared_by, shared_of}
use Rattle.phone_table.specs.declared.duplicates.Shared.{Shared}

module _ {X : Type 0} (t : X → Bool) where
  -- the first place has an element that passes
  pub position_some : (i : ℕ) (xs : List X) (n : ℕ) → position_from t i xs ≡ Some n → (j : ℕ) × (x : X) × (n ≡ i + j) × (slice_get xs j ≡ Some x) × (t x ≡ true)
  position_some i [] n h = absurd (none-some n h)
  position_some i (y ∷ xs) n h = by (t y) refl (position_some (i + 1) xs n)
    where
      by : (b : Bool) → t y ≡ b → (position_from t (i + 1) xs ≡ Some n → (j : ℕ) × (x : X) × (n ≡ i + 1 + j) × (slice_get xs j ≡ Some x) × (t x ≡ true)) →
          (j : ℕ) × (x : X) × (n ≡ i + j) × (slice_get (y ∷ xs) j ≡ Some x) × (t x ≡ true)
      by true e more = (0, y, omega (arith, same_Some _ _ (rw e at h)), refl, e)
      by false e more = let (j, x, place, at, passes) = more (rw e at h) in (suc j, x, omega (arith, place), at, passes)

  -- and none stands in front of it
  pub position_least : (i : ℕ) (xs : List X) (j : ℕ) (y : X) → slice_get xs j ≡ Some y → t y ≡ true → (n : ℕ) × (position_from t i xs ≡ Some n) × (n ≤ i + j)
  position_least i [] j y at h = absurd (none-some y at)
  position_least i (x ∷ xs) zero y at h = (i, rw (ap t (same_Some _ _ at) ∙ h) refl, omega arith)
  position_least i (x ∷ xs) (suc j) y at h = by (t x) refl (position_least (i + 1) xs j y at h)
    where
      by : (b : Bool) → t x ≡ b → (n : ℕ) × (position_from t (i + 1) xs ≡ Some n) × (n ≤ i + 1 + j) → (n : ℕ) × (position_from t i (x ∷ xs) ≡ Some n) × (n ≤ i + suc j)
      by true e more = (i, rw e refl, omega arith)
      by false e (n, is, least) = (n, rw e is, omega (arith, least))

-- which record has a key
has_own : (a : Answered) (key : List ℕ) → a.key ≡ Some key → has_key key a ≡ true
has_own a key e = ap (λ o. option_map_or (bytes_eq key) o false) e ∙ (bytes_eq-Decides key key).1 refl

own_of : (key : List ℕ) (o : Option (List ℕ)) → option_map_or (bytes_eq key) o false ≡ true → o ≡ Some key
own_of key None h = absurd (true≢false (sym h))
own_of key (Some k) h = ap (λ t. Some t) (sym ((bytes_eq-Decides key k).0 h))

-- those that share a key, by the place of the first
shared_at : (all : List Answered) (a : Answered) (key : List ℕ) (n : ℕ) → a.key ≡ Some key → position_from (has_key key) 2 all ≡ Some n →
    shared_of all a ≡ Some (record { first = n; count = count_by (has_key key) all })
shared_at all a key n e is = ap (option_and_then (shared_by all)) e ∙ ap (option_map (λ number. let s : Shared = record { first = number; count = count_by (has_key key) all } in s)) is

names : (s : Shared) (number : ℕ) → (b : Bool) → (s.first == number) ≡ b → (first : ℕ) → duplicate_of (Some s) number ≡ Some first → (s.first ≡ first) × (s.first ≡ number → ⊥)
names s number true e first h = absurd (none-some first (rw e at h))
names s number false e first h = (same_Some _ _ (rw e at h), λ same. true≢false (sym (eq-eqb s.first number same) ∙ e))

none_named : (s : Shared) (number : ℕ) → (b : Bool) → (s.first == number) ≡ b → duplicate_of (Some s) number ≡ None → s.first ≡ number
none_named s number true e h = eqb-true s.first number e
none_named s number false e h = absurd (none-some s.first (sym (rw e at h)))

is_own : (s : Shared) → duplicate_of (Some s) s.first ≡ None
is_own s = rw (eq-eqb s.first s.first refl) refl

-- a record that names another one names the first
pub names_first : (all : List Answered) (place first : ℕ) (a : Answered) → slice_get all place ≡ Some a → duplicate_of (shared_of all a) (place + 2) ≡ Some first → NamesFirst all a place first
names_first all place first a at h = by a.key refl
  where
    by : (o : Option (List ℕ)) → a.key ≡ o → NamesFirst all a place first
    by None e = absurd (none-some first (rw e at h))
    by (Some key) e =
        let (n, is, least) = position_least (has_key key) 2 all place a at (has_own a key e) in
        let shared = shared_at all a key n e is in
        let s : Shared = record { first = n; count = count_by (has_key key) all } in
        let named = names s (place + 2) (n == place + 2) refl first (sym (ap (λ o. duplicate_of o (place + 2)) shared) ∙ h) in
        let (j, b, stands, there, passes) = position_some (has_key key) 2 all n is in
        let own = own_of key b.key passes in
        record {
          earlier = j;
          number = omega (arith, named.0, stands);
          before = front n j stands least named.1;
          other = b;
          at = there;
          key = own ∙ sym e;
          is_first = ap (λ o. duplicate_of o first) (shared_at all b key n own is) ∙ subst (λ f. duplicate_of (Some s) f ≡ None) named.0 (is_own s);
        }
      where
        front : (n j : ℕ) → n ≡ 2 + j → n ≤ 2 + place → (n ≡ place + 2 → ⊥) → j < place
        front n j stands least other = omega (arith, stands, least, other)

-- one record with a key names no other
pub one_first : (all : List Answered) (key : List ℕ) (p q : ℕ) (a b : Answered) → slice_get all p ≡ Some a → slice_get all q ≡ Some b → a.key ≡ Some key → b.key ≡ Some key →
    duplicate_of (shared_of all a) (p + 2) ≡ None → duplicate_of (shared_of all b) (q + 2) ≡ None → p ≡ q
one_first all key p q a b at_p at_q own_a own_b none_a none_b =
    let (n, is, least) = position_least (has_key key) 2 all p a at_p (has_own a key own_a) in
    let s : Shared = record { first = n; count = count_by (has_key key) all } in
    let first = none_named s (p + 2) (n == p + 2) refl (sym (ap (λ o. duplicate_of o (p + 2)) (shared_at all a key n own_a is)) ∙ none_a) in
    let second = none_named s (q + 2) (n == q + 2) refl (sym (ap (λ o. duplicate_of o (q + 2)) (shared_at all b key n own_b is)) ∙ none_b) in
    omega (arith, first, second)
