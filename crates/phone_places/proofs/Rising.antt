-- Entries whose names rise, and a search by halves among them.
use native.Mathlib.Numerals.{unary_clauses}
use Rattle.std.proofs.Common.{◌≡◌, ◌⊎◌, inl, inr, ℕ, zero, suc, ◌+◌, ◌-◌, ◌<◌, ◌≤◌, ◌++◌, ◌∷◌, [], Bool, true, false, List, length, get_or, slice_get, None, Some, is_some, option_map, unwrap_or, true≢false, refl, sym, ap, subst, ◌∙◌, nat_cmp, ltb, ltb-true, arith}
use Rattle.std.proofs.lemmas.Bool.{cases_lt, ltb-false}
use Rattle.std.proofs.lemmas.Cmp.{alike_right, nat_list_cmp_total}
use Rattle.std.proofs.lemmas.List.{get_or_append_left, get_or_default, get_or_push, length-append}
use Rattle.std.proofs.lemmas.List.Folds.{list_any_none}
use Rattle.std.specs.Cmp.Lexicographic.{slice_cmp, texts_ties}
use Rattle.std.specs.Ordering.{is_eq, is_lt, ordering_reverse}
use Rattle.std.specs.declared.cmp.Ordering.{Ordering}
use Rattle.std.specs.declared.cmp.Ordering.TheVariants.{Less, Equal, Greater}
use Rattle.phone_places.specs.Tables.{IsAbove, IsBelow, Rises, has_name, name_of, region_in}
use Rattle.phone_places.specs.declared.countries.Entry.{Entry}
use Rattle.phone_index.proofs.Finds.{find_first, none_found}

-- how the name of an entry compares
abbrev compared : Entry → List ℕ → Ordering
compared e text = slice_cmp nat_cmp (name_of e) text

other_name : (e : Entry) (text : List ℕ) (o : Ordering) → compared e text ≡ o → is_eq o ≡ false → has_name text e ≡ false
other_name e text o is differs = texts_ties (name_of e) text ∙ ap is_eq is ∙ differs

turned : (a b : List ℕ) (o : Ordering) → slice_cmp nat_cmp a b ≡ o → slice_cmp nat_cmp b a ≡ ordering_reverse o
turned a b o e = nat_list_cmp_total.antisymm b a ∙ ap ordering_reverse e

-- the entry at a place, of names that rise
module _ (es : List Entry) (rise : Rises es) (text : List ℕ) (m : ℕ) (x : Entry) (at_m : x ≡ get_or es m x) (inside : m < length es) where
  it : (d : Entry) → get_or es m d ≡ x
  it d = get_or_default es m d x inside ∙ sym at_m

  earlier : (k : ℕ) (d : Entry) → k < m → compared (get_or es k d) (name_of x) ≡ Less
  earlier k d h = ap (λ e. compared (get_or es k d) (name_of e)) (sym (it d)) ∙ rise k m d h inside

  later : (k : ℕ) (d : Entry) → m < k → k < length es → compared x (name_of (get_or es k d)) ≡ Less
  later k d h g = ap (λ e. compared e (name_of (get_or es k d))) (sym (it d)) ∙ rise m k d h g

  -- where its name is below a text, all up to it are
  pub all_below : compared x text ≡ Less → (k : ℕ) (d : Entry) → k < m + 1 → compared (get_or es k d) text ≡ Less
  all_below less k d h = by (ltb k m) refl
    where
      by : (b : Bool) → ltb k m ≡ b → compared (get_or es k d) text ≡ Less
      by true e = nat_list_cmp_total.trans (name_of (get_or es k d)) (name_of x) text (earlier k d (ltb-true k m e)) less
      by false e = subst (λ i. compared (get_or es i d) text ≡ Less) (omega (arith, ltb-false k m e)) (ap (λ y. compared y text) (it d) ∙ less)

  -- where it is above, all from it on are
  pub all_above : compared x text ≡ Greater → (k : ℕ) (d : Entry) → m ≤ k → k < length es → compared (get_or es k d) text ≡ Greater
  all_above more k d h g = by (ltb m k) refl
    where
      by : (b : Bool) → ltb m k ≡ b → compared (get_or es k d) text ≡ Greater
      by true e =
          turned text (name_of (get_or es k d)) Less
          (nat_list_cmp_total.trans text (name_of x) (name_of (get_or es k d)) (turned (name_of x) text Greater more) (later k d (ltb-true m k e) g))
      by false e = subst (λ i. compared (get_or es i d) text ≡ Greater) (omega (arith, ltb-false m k e)) (ap (λ y. compared y text) (it d) ∙ more)

  -- where it is the same, the entry's region is the text's
  pub region_found : compared x text ≡ Equal → Some x.id ≡ region_in es text
  region_found same =
      sym (ap (option_map (λ e. e.id))
      (find_first (has_name text) es m x inside at_m (texts_ties (name_of x) text ∙ ap is_eq same)
      (λ k d h. other_name (get_or es k d) text Less (sym (alike_right nat_list_cmp_total (name_of x) text (name_of (get_or es k d)) same) ∙ earlier k d h) refl)))

-- where all up to a place are below, and all from it on above, the text has no region
pub none_left : (es : List Entry) (text : List ℕ) (m n : ℕ) → n ≤ m → ((k : ℕ) (d : Entry) → k < m → compared (get_or es k d) text ≡ Less) →
    ((k : ℕ) (d : Entry) → n ≤ k → k < length es → compared (get_or es k d) text ≡ Greater) → None ≡ region_in es text
none_left es text m n h below above = sym (ap (option_map (λ e. e.id)) (none_found (has_name text) es (list_any_none (has_name text) es other)))
  where
    other : (k : ℕ) (d : Entry) → k < length es → has_name text (get_or es k d) ≡ false
    other k d g = by (ltb k m) refl
      where
        by : (b : Bool) → ltb k m ≡ b → has_name text (get_or es k d) ≡ false
        by true e = other_name (get_or es k d) text Less (below k d (ltb-true k m e)) refl
        by false e = other_name (get_or es k d) text Greater (above k d (omega (arith, ltb-false k m e)) g) refl

-- a name that is above the last one is above all
pub above_last : (es : List Entry) → Rises es → (text : List ℕ) (x : Entry) (m : ℕ) → x ≡ get_or es m x → m < length es → m + 1 ≡ length es → compared x text ≡ Less → IsAbove es text
above_last es rise text x m at_m inside last less i d h = all_below es rise text m x at_m inside less i d (omega (arith, h, last))

-- entries rise where one more is put at their end, whose name is above theirs
pub Rises-push : (es : List Entry) (e : Entry) → Rises es → IsAbove es (name_of e) → Rises (es ++ e ∷ [])
Rises-push es e rise above i j d less inside = step (cases_lt j (length es))
  where
    step : (j < length es) ⊎ (length es ≤ j) → compared (get_or (es ++ e ∷ []) i d) (name_of (get_or (es ++ e ∷ []) j d)) ≡ Less
    step (inl h) = rw (get_or_append_left es (e ∷ []) d i (omega (arith, less, h)), get_or_append_left es (e ∷ []) d j h) (rise i j d less h)
    step (inr h) =
        let at : length es ≡ j = omega (arith, h, inside, length-append es (e ∷ [])) in
        rw (get_or_append_left es (e ∷ []) d i (omega (arith, less, at)), get_or_push es e d j at) (above i d (omega (arith, less, at)))

-- what stands at a place
pub at_place : {X : Type 0} (xs : List X) (i : ℕ) (x : X) → Some x ≡ slice_get xs i → (i < length xs) × (x ≡ get_or xs i x)
at_place [] i x e = absurd (true≢false (ap is_some e))
at_place (y ∷ ys) zero x e = (omega arith, ap (λ o. unwrap_or o x) e)
at_place (y ∷ ys) (suc i) x e = let r = at_place ys i x e in (omega (arith, r.0), r.1)

some_last : {X : Type 0} (x : X) (xs : List X) → None ≡ slice_get (x ∷ xs) (length xs) → ⊥
some_last x [] e = true≢false (sym (ap is_some e))
some_last x (y ∷ ys) e = some_last y ys e

-- a list without a last element is empty
pub none_last : {X : Type 0} (xs : List X) → None ≡ slice_get xs (length xs - 1) → length xs ≡ 0
none_last [] e = refl
none_last (x ∷ xs) e = absurd (some_last x xs (simp unary_clauses at e))

-- a name is above none
pub above_none : (es : List Entry) (text : List ℕ) → length es ≡ 0 → IsAbove es text
above_none es text none i d h = absurd (omega (arith, none, h))

-- a name is above those of all entries just where it is above the last one
pub above_if_last : (es : List Entry) → Rises es → (text : List ℕ) (x : Entry) → (length es - 1 < length es) × (x ≡ get_or es (length es - 1) x) →
    (IsBelow text x → IsAbove es text) × (IsAbove es text → IsBelow text x)
above_if_last es rise text x (inside, at) = (
  (λ less. above_last es rise text x (length es - 1) at inside (omega (arith, inside)) less),
  (λ above. ap (λ y. compared y text) at ∙ above (length es - 1) x inside),
)

-- an order that is less
pub lt_less : (o : Ordering) → (is_lt o ≡ true → o ≡ Less) × (o ≡ Less → is_lt o ≡ true)
lt_less Less = ((λ _. refl), (λ _. refl))
lt_less Equal = ((λ t. absurd (true≢false (sym t))), (λ e. ap is_lt e))
lt_less Greater = ((λ t. absurd (true≢false (sym t))), (λ e. ap is_lt e))
