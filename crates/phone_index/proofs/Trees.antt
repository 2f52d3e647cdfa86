-- Trees of nodes: a node more.
use Rattle.std.proofs.Common.{◌≡◌, ◌≢◌, ◌⊎◌, inl, inr, ℕ, ◌+◌, ◌*◌, ◌/◌, ◌%◌, ◌^◌, ◌<◌, ◌≤◌, false, List, [], ◌∷◌, ◌++◌, length, get_or, set, refl, ap, sym, subst, ◌∙◌, arith, length-append, length-set, get_or-set_same, get_or-set_other}
use Rattle.std.proofs.Math.Seq.{get_or-append_seam}
use Rattle.std.proofs.lemmas.List.{get_or_append_left, get_or-replicate}
use Rattle.std.proofs.lemmas.Bool.{cases_eq, cases_lt}
use Rattle.phone_index.proofs.Fronts.{front_trans}
use Rattle.phone_index.proofs.Listed.{node_is}
use Rattle.phone_index.specs.declared.node.Node.{Node}
use Rattle.phone_index.specs.Nodes.{bare, child_of, node_at, HasNode, IsFront, IsGrown, IsPlaceOf, IsTree, same, longer}

-- a node has the number that it had, lists what it did, and has as many children places
abbrev IsKept : List Node → List Node → ℕ → Type 0
IsKept old new k = ((node_at new k).number ≡ (node_at old k).number) × ((node_at new k).listed ≡ (node_at old k).listed) × (length (node_at new k).children ≡ length (node_at old k).children)

-- a node more, to which a digit leads from one that was there
record IsAdded (old new : List Node) (parent digit number : ℕ) : Type 0 where
  counted : length new ≡ length old + 1
  kept : (k : ℕ) → k < length old → IsKept old new k
  added : node_at new (length old) ≡ bare number
  leads : child_of (node_at new parent) digit ≡ length old
  others : (k d : ℕ) → k < length old → (k ≢ parent) ⊎ (d ≢ digit) → child_of (node_at new k) d ≡ child_of (node_at old k) d

module _ (old new : List Node) (parent number : ℕ) (tree : IsTree old) (inside : parent < length old) (front : (node_at old parent).number ≡ number / 10) (some : 0 < number) (small : number < 2 ^ 16) (free : child_of (node_at old parent) (number % 10) ≡ 0) (h : IsAdded old new parent (number % 10) number) where
  abbrev last : ℕ
  last = length old

  -- a place is one that was there, or the new one's
  old_or_last : (k : ℕ) → k < length new → (k < last) ⊎ (k ≡ last)
  old_or_last k less = step (cases_lt k last)
    where
      step : (k < last) ⊎ (last ≤ k) → (k < last) ⊎ (k ≡ last)
      step (inl before) = inl before
      step (inr past) = inr (omega (arith, less, past, h.counted))

  at_last : (k : ℕ) → k ≡ last → node_at new k ≡ bare number
  at_last k e = ap (node_at new) e ∙ h.added

  last_number : (k : ℕ) → k ≡ last → (node_at new k).number ≡ number
  last_number k e = ap (λ (n : Node). n.number) (at_last k e)

  -- the number had no node
  fresh : (j : ℕ) → j < last → (node_at old j).number ≡ number → ⊥
  fresh j less e = step (cases_lt 0 j)
    where
      step : (0 < j) ⊎ (j ≤ 0) → ⊥
      step (inl later) = tree.ends parent (number % 10) j inside (omega arith) free later less (omega (arith, e, front))
      step (inr root) = let z : j ≡ 0 = omega (arith, root) in let n : (node_at old j).number ≡ 0 = ap (λ i. (node_at old i).number) z ∙ tree.root.1 in omega (arith, n, e, some)

  has : (n : ℕ) → HasNode old n → HasNode new n
  has n (k, less, e) = (k, omega (arith, less, h.counted), (h.kept k less).0 ∙ e)

  numbers : (k : ℕ) → 0 < k → k < length new → (0 < (node_at new k).number) × ((node_at new k).number < 2 ^ 16)
  numbers k later less = step (old_or_last k less)
    where
      step : (k < last) ⊎ (k ≡ last) → (0 < (node_at new k).number) × ((node_at new k).number < 2 ^ 16)
      step (inl before) = let e = (h.kept k before).0 in let n = tree.numbers k later before in (omega (arith, e, n.0), omega (arith, e, n.1))
      step (inr e) = let n = last_number k e in (omega (arith, n, some), omega (arith, n, small))

  apart : (j k : ℕ) → j < length new → k < length new → (node_at new j).number ≡ (node_at new k).number → j ≡ k
  apart j k j_less k_less e = step (old_or_last j j_less) (old_or_last k k_less)
    where
      step : (j < last) ⊎ (j ≡ last) → (k < last) ⊎ (k ≡ last) → j ≡ k
      step (inl j') (inl k') = tree.apart j k j' k' (sym (h.kept j j').0 ∙ e ∙ (h.kept k k').0)
      step (inl j') (inr k') = absurd (fresh j j' (sym (h.kept j j').0 ∙ e ∙ last_number k k'))
      step (inr j') (inl k') = absurd (fresh k k' (sym (h.kept k k').0 ∙ sym e ∙ last_number j j'))
      step (inr j') (inr k') = j' ∙ sym k'

  widths : (k : ℕ) → k < length new → length (node_at new k).children ≡ 10
  widths k less = step (old_or_last k less)
    where
      step : (k < last) ⊎ (k ≡ last) → length (node_at new k).children ≡ 10
      step (inl before) = (h.kept k before).2 ∙ tree.widths k before
      step (inr e) = ap (λ (n : Node). length n.children) (at_last k e)

  -- a digit leads from a node to the new one, or to where it led
  new_or_old : (k d : ℕ) → k < last → ((k ≡ parent) × (d ≡ number % 10)) ⊎ ((k ≢ parent) ⊎ (d ≢ number % 10))
  new_or_old k d less = step (cases_eq k parent) (cases_eq d (number % 10))
    where
      step : (k ≡ parent) ⊎ (k ≢ parent) → (d ≡ number % 10) ⊎ (d ≢ number % 10) → ((k ≡ parent) × (d ≡ number % 10)) ⊎ ((k ≢ parent) ⊎ (d ≢ number % 10))
      step (inl a) (inl b) = inl (a, b)
      step (inl a) (inr b) = inr (inr b)
      step (inr a) b = inr (inl a)

  child_at_new : (k d : ℕ) → k ≡ parent → d ≡ number % 10 → child_of (node_at new k) d ≡ last
  child_at_new k d e f = ap (λ i. child_of (node_at new i) d) e ∙ ap (child_of (node_at new parent)) f ∙ h.leads

  -- a node's child, as it was
  old_leads : (k d c : ℕ) → k < last → d < 10 → child_of (node_at old k) d ≡ c → 0 < c → (c < length new) × ((node_at new c).number ≡ 10 * (node_at new k).number + d)
  old_leads k d c less digit is some' =
      let l = subst (λ i. (i < last) × ((node_at old i).number ≡ 10 * (node_at old k).number + d)) is (tree.leads k d less digit (rw is some')) in
      (omega (arith, l.0, h.counted), omega (arith, (h.kept c l.0).0, l.1, (h.kept k less).0))

  new_leads : (k d c : ℕ) → k < length new → d < 10 → child_of (node_at new k) d ≡ c → 0 < c → (c < length new) × ((node_at new c).number ≡ 10 * (node_at new k).number + d)
  new_leads k d c less digit is some' = step (old_or_last k less)
    where
      by_child : (before : k < last) → ((k ≡ parent) × (d ≡ number % 10)) ⊎ ((k ≢ parent) ⊎ (d ≢ number % 10)) → (c < length new) × ((node_at new c).number ≡ 10 * (node_at new k).number + d)
      by_child before (inl (e, f)) =
          let at : c ≡ last = sym is ∙ child_at_new k d e f in
          let m = last_number c at in
          let p : (node_at new k).number ≡ number / 10 = (h.kept k before).0 ∙ ap (λ i. (node_at old i).number) e ∙ front in
          (omega (arith, at, h.counted), omega (arith, m, p, f))
      by_child before (inr other) = old_leads k d c before digit (sym (h.others k d before other) ∙ is) some'

      step : (k < last) ⊎ (k ≡ last) → (c < length new) × ((node_at new c).number ≡ 10 * (node_at new k).number + d)
      step (inl before) = by_child before (new_or_old k d before)
      step (inr e) =
          let none : c ≡ 0 = sym is ∙ ap (λ n. child_of n d) (at_last k e) ∙ get_or-replicate 10 d 0 0 digit in
          absurd (omega (arith, none, some'))

  ends : (k d j : ℕ) → k < length new → d < 10 → child_of (node_at new k) d ≡ 0 → 0 < j → j < length new → (node_at new j).number ≡ 10 * (node_at new k).number + d → ⊥
  ends k d j k_less digit is later j_less e = step (old_or_last k k_less) (old_or_last j j_less)
    where
      by_child : (before : k < last) → (j < last) ⊎ (j ≡ last) → ((k ≡ parent) × (d ≡ number % 10)) ⊎ ((k ≢ parent) ⊎ (d ≢ number % 10)) → ⊥
      by_child before j' (inl (a, b)) = let none : last ≡ 0 = sym (child_at_new k d a b) ∙ is in omega (arith, none, tree.root.0)
      by_child before (inl j') (inr other) = tree.ends k d j before digit (sym (h.others k d before other) ∙ is) later j' (omega (arith, e, (h.kept j j').0, (h.kept k before).0))
      by_child before (inr j') (inr other) =
          let n : number ≡ 10 * (node_at old k).number + d = omega (arith, e, last_number j j', (h.kept k before).0) in
          let a : k ≡ parent = tree.apart k parent before inside (omega (arith, n, front, digit)) in
          let b : d ≡ number % 10 = omega (arith, n, digit) in
          either other a b
        where
          either : (k ≢ parent) ⊎ (d ≢ number % 10) → k ≡ parent → d ≡ number % 10 → ⊥
          either (inl f) a b = f a
          either (inr f) a b = f b

      step : (k < last) ⊎ (k ≡ last) → (j < last) ⊎ (j ≡ last) → ⊥
      step (inl before) j' = by_child before j' (new_or_old k d before)
      step (inr k') (inl j') =
          let n : (node_at old j).number / 10 ≡ number = omega (arith, e, last_number k k', (h.kept j j').0, digit) in
          let f = tree.fronts j j' in
          fresh f.0 f.1 (f.2 ∙ n)
      step (inr k') (inr j') = omega (arith, e, last_number k k', last_number j j', some)

  fronts : (k : ℕ) → k < length new → HasNode new ((node_at new k).number / 10)
  fronts k less = step (old_or_last k less)
    where
      step : (k < last) ⊎ (k ≡ last) → HasNode new ((node_at new k).number / 10)
      step (inl before) = subst (λ n. HasNode new (n / 10)) (sym (h.kept k before).0) (has _ (tree.fronts k before))
      step (inr e) = subst (λ n. HasNode new (n / 10)) (sym (last_number k e)) (has _ (parent, inside, front))

  grown : IsGrown old new number
  grown = record {
    longer = omega (arith, h.counted);
    kept = λ k less. ((h.kept k less).0, (h.kept k less).1);
    added = λ k past less. step k (omega (arith, past, less, h.counted));
  }
    where
      step : (k : ℕ) → k ≡ last → ((node_at new k).listed ≡ false) × IsFront (node_at new k).number number
      step k e = (ap (λ (n : Node). n.listed) (at_last k e), subst (λ n. IsFront n number) (sym (last_number k e)) same)

  -- the tree is one with the new node
  added_place : IsPlaceOf old new number last
  added_place = record {
    tree = record {
      root = (omega (arith, h.counted), (h.kept 0 tree.root.0).0 ∙ tree.root.1);
      numbers = numbers;
      apart = apart;
      widths = widths;
      leads = λ k d less digit. new_leads k d _ less digit refl;
      ends = ends;
      fronts = fronts;
    };
    inside = omega (arith, h.counted);
    is = last_number last refl;
    grown = grown;
  }

-- the node with one more digit that leads somewhere
abbrev pub leading : Node → ℕ → ℕ → Node
leading n digit place = record n { children = set n.children digit place }

-- a bare node at the end
abbrev with_bare : List Node → ℕ → List Node
with_bare old number = old ++ bare number ∷ []

-- and a digit that leads to it
abbrev with_child : List Node → ℕ → ℕ → ℕ → List Node
with_child old parent digit number = set (with_bare old number) parent (leading (node_at (with_bare old number) parent) digit (length old))

module _ (old : List Node) (parent digit number : ℕ) (inside : parent < length old) (wide : length (node_at old parent).children ≡ 10) (small : digit < 10) where
  before : (k : ℕ) → k < length old → node_at (with_bare old number) k ≡ node_at old k
  before k less = get_or_append_left old (bare number ∷ []) (bare 0) k less

  wider : length (with_bare old number) ≡ length old + 1
  wider = length-append old (bare number ∷ [])

  at_parent : node_at (with_child old parent digit number) parent ≡ leading (node_at old parent) digit (length old)
  at_parent = get_or-set_same (with_bare old number) parent _ (bare 0) (omega (arith, inside, wider)) ∙ ap (λ n. leading n digit (length old)) (before parent inside)

  elsewhere : (k : ℕ) → k < length old → k ≢ parent → node_at (with_child old parent digit number) k ≡ node_at old k
  elsewhere k less other = get_or-set_other (with_bare old number) parent k _ (bare 0) other ∙ before k less

  is_added : IsAdded old (with_child old parent digit number) parent digit number
  is_added = record {
    counted = length-set (with_bare old number) parent _ ∙ wider;
    kept = λ k less. kept k (cases_eq k parent) less;
    added = get_or-set_other (with_bare old number) parent (length old) _ (bare 0) (λ e. absurd (omega (arith, e, inside))) ∙ get_or-append_seam old (bare number) [] (bare 0);
    leads = ap (λ n. child_of n digit) at_parent ∙ get_or-set_same (node_at old parent).children digit (length old) 0 (omega (arith, wide, small));
    others = λ k d less other. others k d (cases_eq k parent) less other;
  }
    where
      kept : (k : ℕ) → (k ≡ parent) ⊎ (k ≢ parent) → k < length old → IsKept old (with_child old parent digit number) k
      kept k (inr other) less = let e = elsewhere k less other in (ap (λ n. n.number) e, ap (λ n. n.listed) e, ap (λ n. length n.children) e)
      kept k (inl e) less = subst (IsKept old (with_child old parent digit number)) (sym e)
          (ap (λ n. n.number) at_parent, ap (λ n. n.listed) at_parent, ap (λ n. length n.children) at_parent ∙ length-set (node_at old parent).children digit (length old))

      others : (k d : ℕ) → (k ≡ parent) ⊎ (k ≢ parent) → k < length old → (k ≢ parent) ⊎ (d ≢ digit) → child_of (node_at (with_child old parent digit number) k) d ≡ child_of (node_at old k) d
      others k d (inr other) less o = ap (λ n. child_of n d) (elsewhere k less other)
      others k d (inl e) less (inl other) = absurd (other e)
      others k d (inl e) less (inr other) =
          ap (λ i. child_of (node_at (with_child old parent digit number) i) d) e
          ∙ ap (λ n. child_of n d) at_parent
          ∙ get_or-set_other (node_at old parent).children digit d (length old) 0 other
          ∙ ap (λ i. child_of (node_at old i) d) (sym e)

module _ (old : List Node) (parent number : ℕ) (tree : IsTree old) (inside : parent < length old) (front : (node_at old parent).number ≡ number / 10) where
  -- the node that is made for a number that had none, as its parent's new value says
  pub made_place : (more : List Node) (n : Node) (digit place : ℕ) → more ≡ with_bare old number → n ≡ get_or more parent n → digit ≡ number % 10 → place ≡ length old →
      0 < number → number < 2 ^ 16 → child_of (node_at old parent) digit ≡ 0 → IsPlaceOf old (set more parent (leading n digit place)) number place
  made_place more n digit place e at last_digit end some small free =
      let less : parent < length more = omega (arith, inside, ap length e ∙ length-append old (bare number ∷ [])) in
      let node : n ≡ node_at (with_bare old number) parent = node_is more parent n less at ∙ ap (λ xs. node_at xs parent) e in
      let made = added_place old (with_child old parent (number % 10) number) parent number tree inside front some small (ap (child_of (node_at old parent)) (sym last_digit) ∙ free)
      (is_added old parent (number % 10) number inside (tree.widths parent inside) (omega arith)) in
      rw (end, last_digit, node, e) made

-- a number's node, made from that of the number of one digit less
pub place_trans : (old mid new : List Node) (number at place : ℕ) → IsPlaceOf old mid (number / 10) at → IsPlaceOf mid new number place → IsPlaceOf old new number place
place_trans old mid new number at place a b = record {
  tree = b.tree;
  inside = b.inside;
  is = b.is;
  grown = record {
    longer = omega (arith, a.grown.longer, b.grown.longer);
    kept = λ k less. let h = a.grown.kept k less in let g = b.grown.kept k (omega (arith, less, a.grown.longer)) in (g.0 ∙ h.0, g.1 ∙ h.1);
    added = λ k past less. added k past less (cases_lt k (length mid));
  };
}
  where
    added : (k : ℕ) → length old ≤ k → k < length new → (k < length mid) ⊎ (length mid ≤ k) → ((node_at new k).listed ≡ false) × IsFront (node_at new k).number number
    added k past less (inr later) = b.grown.added k later less
    added k past less (inl earlier) =
        let h = a.grown.added k past earlier in
        let g = b.grown.kept k earlier in
        (g.1 ∙ h.0, subst (λ n. IsFront n number) (sym g.0) (front_trans h.1 (longer refl same)))
