-- Where each number is kept once, no record is lost.
use Rattle.std.proofs.Common.{◌≡◌, ◌⊎◌, ⊎_elim, inl, inr, ℕ, ◌&&◌, ◌||◌, Bool, true, false, List, [], ◌∷◌, ◌++◌, Option, None, Some, refl, sym, ap, subst, ◌∙◌, arith, bytes_eq, true≢false}
use Rattle.std.proofs.lemmas.List.Elements.{Contains-append_left, Contains-append_right, Contains-push, Contains-push_cases}
use Rattle.std.proofs.lemmas.Slice.Eq.{bytes_eq-Decides}
use Rattle.std.specs.List.{Contains, list_any}
use Rattle.std.specs.Option.{option_map_or}
use Rattle.phone_csv.specs.Formats.{Record}
use Rattle.phone_table.specs.Answered.{Answered, has_key}
use Rattle.phone_table.specs.Rows.{AreKept, IsHeldBy, is_taken, row_of}
use Rattle.phone_table.specs.Rows.AreKept.{none, kept, left_out}
use Rattle.phone_table.specs.declared.counts.Counts.{Counts}

-- one of a list that passes
any_in : (p : Answered → Bool) (xs : List Answered) → list_any p xs ≡ true → (x : Answered) × Contains xs x × (p x ≡ true)
any_in p [] h = absurd (true≢false (sym h))
any_in p (x ∷ xs) h = by (p x) refl (any_in p xs)
  where
    by : (b : Bool) → p x ≡ b → (list_any p xs ≡ true → (y : Answered) × Contains xs y × (p y ≡ true)) → (y : Answered) × Contains (x ∷ xs) y × (p y ≡ true)
    by true e more = (x, Contains-append_left (x ∷ []) xs x (Contains-push [] x), e)
    by false e more = let (y, is, passes) = more (sym (ap (λ b. b || list_any p xs) e) ∙ h) in (y, Contains-append_right (x ∷ []) xs y is, passes)

own_key : (key : List ℕ) (o : Option (List ℕ)) → option_map_or (bytes_eq key) o false ≡ true → o ≡ Some key
own_key key None h = absurd (true≢false (sym h))
own_key key (Some k) h = ap (λ t. Some t) (sym ((bytes_eq-Decides key k).0 h))

-- a key that is taken is that of a record
taken_by : (all : List Answered) (o : Option (List ℕ)) → is_taken all o ≡ true → (key : List ℕ) × (other : Answered) × (o ≡ Some key) × Contains all other × (other.key ≡ Some key)
taken_by all None h = absurd (true≢false (sym h))
taken_by all (Some key) h = let (other, is, passes) = any_in (has_key key) all h in (key, other, refl, is, own_key key other.key passes)

same_key : (a b : List ℕ) → Some a ≡ Some b → a ≡ b
same_key a b e = cc

-- so it stays with more records, and more rows
more_held : (all : List Answered) (rows : List Record) (last a : Answered) (row : Record) → IsHeldBy all rows a → IsHeldBy (all ++ last ∷ []) (rows ++ row ∷ []) a
more_held all rows last a row (inl is) = inl (Contains-append_left rows (row ∷ []) (row_of a) is)
more_held all rows last a row (inr (other, key, among, own, same, is)) = inr (other, key, Contains-append_left all (last ∷ []) other among, own, same, Contains-append_left rows (row ∷ []) (row_of other) is)

longer_held : (all : List Answered) (rows : List Record) (last a : Answered) → IsHeldBy all rows a → IsHeldBy (all ++ last ∷ []) rows a
longer_held all rows last a (inl is) = inl is
longer_held all rows last a (inr (other, key, among, own, same, is)) = inr (other, key, Contains-append_left all (last ∷ []) other among, own, same, is)

-- what holds the record whose key another one has
held_with : (all : List Answered) (rows : List Record) (a other : Answered) (key : List ℕ) → a.key ≡ Some key → other.key ≡ Some key → Contains all other →
    IsHeldBy all rows other → IsHeldBy all rows a
held_with all rows a other key own same among (inl is) = inr (other, key, among, own, same, is)
held_with all rows a other key own same among (inr (third, k, stands, first, second, is)) =
    inr (third, key, stands, own, second ∙ ap (λ t. Some t) (same_key k key (sym first ∙ same)), is)

pub none_lost : (all : List Answered) (rows : List Record) (counts : Counts) → AreKept true all rows counts → (a : Answered) → Contains all a → IsHeldBy all rows a
none_lost all rows counts none a is = absurd (omega (arith, is.1))
none_lost all rows counts (kept some before c last are new) a is = ⊎_elim
    (λ earlier. more_held some before last a (row_of last) (none_lost some before c are a earlier))
    (λ same. inl (subst (λ x. Contains (before ++ row_of last ∷ []) (row_of x)) same (Contains-push before (row_of last))))
    (Contains-push_cases some last a is)
none_lost all rows counts (left_out some before c last are known) a is = ⊎_elim
    (λ earlier. longer_held some rows last a (none_lost some rows c are a earlier))
    (λ same. let (key, other, own, among, shared) = taken_by some last.key known in
    subst (λ x. IsHeldBy (some ++ last ∷ []) rows x) same (longer_held some rows last last
    (held_with some rows last other key own shared among (none_lost some rows c are other among))))
    (Contains-push_cases some last a is)
