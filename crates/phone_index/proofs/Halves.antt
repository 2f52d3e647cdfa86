-- A search by halves.
use Rattle.std.proofs.Common.{◌≡◌, ℕ, zero, suc, ◌+◌, ◌*◌, ◌<◌, ◌≤◌, ◌^◌, Bool, true, false, List, length, get_or, None, Some, option_map, refl, sym, ap, subst, ◌∙◌, nat_cmp, ltb, ltb-true, arith}
use Rattle.std.proofs.lemmas.Bool.{ltb-false}
use Rattle.std.proofs.lemmas.Cmp.{alike_right, nat_list_cmp_total}
use Rattle.std.proofs.lemmas.List.{get_or_default}
use Rattle.std.proofs.lemmas.List.Folds.{list_any_none}
use Rattle.std.specs.Cmp.Lexicographic.{slice_cmp, texts_ties}
use Rattle.std.specs.Ordering.{is_eq, ordering_reverse}
use Rattle.std.specs.declared.cmp.Ordering.{Ordering}
use Rattle.std.specs.declared.cmp.Ordering.TheVariants.{Less, Equal, Greater}
use Rattle.phone_index.specs.Orders.{Rises, has_text, place_of, text_of}
use Rattle.phone_index.specs.declared.sorted.Named.{Named}
use Rattle.phone_index.proofs.Finds.{find_first, none_found}

-- for each number of binary digits that the number of texts has at most: the texts that are left have so few that the
-- steps from old to now, and one for each digit of these, are no more
abbrev pub StepsLeft : (texts left old now : ℕ) → Type 0
StepsLeft texts left old now = (k : ℕ) → texts < 2 ^ k → (j : ℕ) × (left < 2 ^ j) × (now + j ≤ old + k)

half_below : (left less j : ℕ) → 0 < left → less * 2 ≤ left → left < 2 ^ j → (i : ℕ) × (less < 2 ^ i) × (i + 1 ≡ j)
half_below left less zero h g f = absurd (omega arith)
half_below left less (suc i) h g f = (i, omega arith, omega arith)

-- a step that leaves at most half
pub StepsLeft-half : (texts left less old now : ℕ) → 0 < left → less * 2 ≤ left → StepsLeft texts left old now → StepsLeft texts less old (now + 1)
StepsLeft-half texts left less old now h g steps k f =
    let before = steps k f in
    let half = half_below left less before.0 h g before.1 in
    (half.0, half.1, omega (arith, before.2, half.2))

-- how a text compares
abbrev compared : Named → List ℕ → Ordering
compared e text = slice_cmp nat_cmp (text_of e) text

-- the text of an element differs from another that it doesn't equal
pub other_text : (e : Named) (text : List ℕ) (o : Ordering) → compared e text ≡ o → is_eq o ≡ false → has_text text e ≡ false
other_text e text o is differs = texts_ties (text_of e) text ∙ ap is_eq is ∙ differs

turned : (a b : List ℕ) (o : Ordering) → slice_cmp nat_cmp a b ≡ o → slice_cmp nat_cmp b a ≡ ordering_reverse o
turned a b o e = nat_list_cmp_total.antisymm b a ∙ ap ordering_reverse e

-- the element in the middle, of texts that rise
module _ (es : List Named) (rise : Rises es) (text : List ℕ) (m : ℕ) (x : Named) (at_m : x ≡ get_or es m x) (inside : m < length es) where
  it : (d : Named) → get_or es m d ≡ x
  it d = get_or_default es m d x inside ∙ sym at_m

  earlier : (k : ℕ) (d : Named) → k < m → compared (get_or es k d) (text_of x) ≡ Less
  earlier k d h = ap (λ e. compared (get_or es k d) (text_of e)) (sym (it d)) ∙ rise k m d h inside

  later : (k : ℕ) (d : Named) → m < k → k < length es → compared x (text_of (get_or es k d)) ≡ Less
  later k d h g = ap (λ e. compared e (text_of (get_or es k d))) (sym (it d)) ∙ rise m k d h g

  -- where its text is below, all up to it are
  pub all_below : compared x text ≡ Less → (k : ℕ) (d : Named) → k < m + 1 → compared (get_or es k d) text ≡ Less
  all_below less k d h = by (ltb k m) refl
    where
      by : (b : Bool) → ltb k m ≡ b → compared (get_or es k d) text ≡ Less
      by true e = nat_list_cmp_total.trans (text_of (get_or es k d)) (text_of x) text (earlier k d (ltb-true k m e)) less
      by false e = subst (λ i. compared (get_or es i d) text ≡ Less) (omega (arith, ltb-false k m e)) (ap (λ y. compared y text) (it d) ∙ less)

  -- where it is above, all from it on are
  pub all_above : compared x text ≡ Greater → (k : ℕ) (d : Named) → m ≤ k → k < length es → compared (get_or es k d) text ≡ Greater
  all_above more k d h g = by (ltb m k) refl
    where
      by : (b : Bool) → ltb m k ≡ b → compared (get_or es k d) text ≡ Greater
      by true e =
          turned text (text_of (get_or es k d)) Less
          (nat_list_cmp_total.trans text (text_of x) (text_of (get_or es k d)) (turned (text_of x) text Greater more) (later k d (ltb-true m k e) g))
      by false e = subst (λ i. compared (get_or es i d) text ≡ Greater) (omega (arith, ltb-false m k e)) (ap (λ y. compared y text) (it d) ∙ more)

  -- where it is the same, its place is the text's
  pub place_found : compared x text ≡ Equal → Some x.place ≡ place_of text es
  place_found same =
      sym (ap (option_map (λ e. e.place))
      (find_first (has_text text) es m x inside at_m (texts_ties (text_of x) text ∙ ap is_eq same)
      (λ k d h. other_text (get_or es k d) text Less (sym (alike_right nat_list_cmp_total (text_of x) text (text_of (get_or es k d)) same) ∙ earlier k d h) refl)))

-- where all up to a place are below, and all from it on above, no place is the text's
pub none_left : (es : List Named) (text : List ℕ) (m n : ℕ) → n ≤ m → ((k : ℕ) (d : Named) → k < m → compared (get_or es k d) text ≡ Less) →
    ((k : ℕ) (d : Named) → n ≤ k → k < length es → compared (get_or es k d) text ≡ Greater) → None ≡ place_of text es
none_left es text m n h below above = sym (ap (option_map (λ e. e.place)) (none_found (has_text text) es (list_any_none (has_text text) es other)))
  where
    other : (k : ℕ) (d : Named) → k < length es → has_text text (get_or es k d) ≡ false
    other k d g = by (ltb k m) refl
      where
        by : (b : Bool) → ltb k m ≡ b → has_text text (get_or es k d) ≡ false
        by true e = other_text (get_or es k d) text Less (below k d (ltb-true k m e)) refl
        by false e = other_text (get_or es k d) text Greater (above k d (omega (arith, ltb-false k m e)) g) refl
