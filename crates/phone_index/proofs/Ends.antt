-- Codes from whose nodes no digit leads.
use Rattle.std.proofs.Common.{◌≡◌, ◌⊎◌, inl, inr, ℕ, ◌+◌, ◌*◌, ◌/◌, ◌%◌, ◌^◌, ◌<◌, ◌≤◌, ◌==◌, ◌||◌, not, Bool, true, false, List, length, refl, ap, sym, subst, ◌∙◌, arith, ne_eqb}
use Rattle.std.proofs.lemmas.Bool.{cases_lt, eq-eqb, false_from_ne_true, false≢true}
use Rattle.std.proofs.lemmas.Bool.Decides.{same_from_decides}
use Rattle.std.proofs.lemmas.List.{get_or_default}
use Rattle.std.proofs.lemmas.List.Folds.{list_any_at, Any-from_list_any}
use Rattle.std.proofs.lemmas.List.Sums.{list_all-from_AllPass, AllPass-from_list_all}
use Rattle.std.specs.List.{list_all}
use Rattle.phone_index.specs.declared.node.Node.{Node}
use Rattle.phone_index.specs.ListedCodes.{begins, is_prefix_free}
use Rattle.phone_index.specs.Nodes.{bare, child_of, has_child, is_end, listed_by, node_at, HasNode, IsFront, IsTree, IsTrie, Lists, same, longer}
use Rattle.phone_index.proofs.Fronts.{begins_from_front, front_from_begins, front_le, front_split, front_trans}
use Rattle.phone_index.proofs.Listed.{list_all-Decides}

module _ (nodes : List Node) (tree : IsTree nodes) where
  -- what is in front of a node's number has a node
  pub has_front : (a n : ℕ) → IsFront a n → HasNode nodes n → HasNode nodes a
  has_front a n same h = h
  has_front a n (longer e f) h = has_front a _ f (let g = tree.fronts h.0 h.1 in (g.0, g.1, g.2 ∙ ap (λ m. m / 10) h.2 ∙ sym e))

  -- the node of a number that isn't 0 isn't the root
  pub not_root : (k n : ℕ) → (node_at nodes k).number ≡ n → 0 < n → 0 < k
  not_root k n e some = step (cases_lt 0 k)
    where
      step : (0 < k) ⊎ (k ≤ 0) → 0 < k
      step (inl h) = h
      step (inr h) = let z : k ≡ 0 = omega (arith, h) in let m : (node_at nodes k).number ≡ 0 = ap (λ i. (node_at nodes i).number) z ∙ tree.root.1 in absurd (omega (arith, m, e, some))

  -- numbers are of 16 bits
  small : (n : ℕ) → HasNode nodes n → n < 2 ^ 64
  small n (k, less, e) = step (cases_lt 0 n)
    where
      step : (0 < n) ⊎ (n ≤ 0) → n < 2 ^ 64
      step (inr h) = omega (arith, h)
      step (inl h) = omega (arith, (tree.numbers k (not_root k n e h) less).1, e)

  -- from the front of a number a digit leads on
  leads_on : (k m : ℕ) → k < length nodes → 0 < m → (node_at nodes k).number ≡ m / 10 → HasNode nodes m → has_child (node_at nodes k) ≡ true
  leads_on k m less some front (j, j_less, e) = step (cases_lt 0 (child_of (node_at nodes k) (m % 10)))
    where
      step : (0 < child_of (node_at nodes k) (m % 10)) ⊎ (child_of (node_at nodes k) (m % 10) ≤ 0) → has_child (node_at nodes k) ≡ true
      step (inl h) = list_any_at (λ place. not (place == 0)) (node_at nodes k).children (m % 10) 0 (omega (arith, tree.widths k less)) (ap not (ne_eqb _ 0 (omega (arith, h))))
      step (inr h) = absurd (tree.ends k (m % 10) j less (omega arith) (omega (arith, h)) (not_root j m e some) j_less (omega (arith, e, front)))

not_0 : (n : ℕ) → not (n == 0) ≡ true → 0 < n
not_0 n t = step (cases_lt 0 n)
  where
    step : (0 < n) ⊎ (n ≤ 0) → 0 < n
    step (inl h) = h
    step (inr h) = absurd (false≢true (ap not (sym (eq-eqb n 0 (omega (arith, h)))) ∙ t))

pub lists_has : (nodes : List Node) (n : ℕ) → Lists nodes n → HasNode nodes n
lists_has nodes n (k, less, l, e) = (k, less, e)

-- a node that is an end and lists a number other than 0 has no child
end_parts : (n : Node) → is_end n ≡ true → n.listed ≡ true → 0 < n.number → has_child n ≡ true → ⊥
end_parts n t l some c = step (n.number == 0) n.listed (has_child n) (ne_eqb n.number 0 (omega (arith, some))) l c t
  where
    step : (a b h : Bool) → a ≡ false → b ≡ true → h ≡ true → (a || not b || not h) ≡ true → ⊥
    step false true true x y z t = false≢true t
    step true b h x y z t = false≢true (sym x)
    step false false h x y z t = false≢true y
    step false true false x y z t = false≢true z

-- and a node is an end if it has none where it lists such a number
end_from : (n : Node) → (n.listed ≡ true → 0 < n.number → has_child n ≡ true → ⊥) → is_end n ≡ true
end_from n f = step (n.number == 0) n.listed (has_child n) refl refl refl
  where
    step : (a b h : Bool) → (n.number == 0) ≡ a → n.listed ≡ b → has_child n ≡ h → (a || not b || not h) ≡ true
    step true b h x y z = refl
    step false false h x y z = refl
    step false true false x y z = refl
    step false true true x y z = absurd (f y (not_0 n.number (ap not x)) z)

module _ (nodes : List Node) (trie : IsTrie nodes) where
  abbrev codes : List ℕ
  codes = listed_by nodes

  free : list_all is_end nodes ≡ true → (a b : ℕ) → Lists nodes a → Lists nodes b → begins a b ≡ true → ⊥
  free ends a b (k, less, l, e) b_in t =
      let b_has = lists_has nodes b b_in in
      let f = front_from_begins a b (small nodes trie.tree a (k, less, e)) (small nodes trie.tree b b_has) t in
      let m = front_split a b f.2 f.1 in
      let some : 0 < m.0 = omega (arith, m.1, f.0) in
      let child = leads_on nodes trie.tree k m.0 less some (e ∙ m.1) (has_front nodes trie.tree m.0 b m.2 b_has) in
      end_parts (node_at nodes k) (AllPass-from_list_all is_end nodes ends k (bare 0) less) l (omega (arith, e, f.0)) child

  ended : ((a b : ℕ) → Lists nodes a → Lists nodes b → begins a b ≡ true → ⊥) → (k : ℕ) → k < length nodes → is_end (node_at nodes k) ≡ true
  ended f k less = end_from (node_at nodes k) no_child
    where
      no_child : (node_at nodes k).listed ≡ true → 0 < (node_at nodes k).number → has_child (node_at nodes k) ≡ true → ⊥
      no_child l some c =
          let a = (node_at nodes k).number in
          let h = Any-from_list_any (λ place. not (place == 0)) (node_at nodes k).children c in
          let is : child_of (node_at nodes k) h.0 ≡ h.1 = get_or_default _ h.0 0 h.1 h.2 ∙ h.3 in
          let later : 0 < h.1 = not_0 h.1 h.4 in
          let lead = subst (λ j. (j < length nodes) × ((node_at nodes j).number ≡ 10 * a + h.0)) is (trie.tree.leads k h.0 less (omega (arith, h.2, trie.tree.widths k less)) (rw is later)) in
          let way = trie.on_way h.1 later lead.0 in
          let front : IsFront a way.0 = front_trans (longer (omega (arith, lead.1, h.2, trie.tree.widths k less)) same) way.2 in
          let above : a < way.0 = omega (arith, lead.1, some, front_le _ way.0 way.2) in
          f a way.0 (k, less, l, refl) way.1
          (begins_from_front a way.0 some (small nodes trie.tree a (k, less, refl)) (small nodes trie.tree way.0 (lists_has nodes way.0 way.1)) (λ e. absurd (omega (arith, e, above))) front)

  -- no digit leads from the code of a trie just if none begins another
  pub ends-prefix_free : list_all is_end nodes ≡ is_prefix_free codes
  ends-prefix_free = same_from_decides _ _ ((λ t. t), (λ t. t)) (to_ends, to_free)
    where
      to_ends : is_prefix_free codes ≡ true → list_all is_end nodes ≡ true
      to_ends t = list_all-from_AllPass is_end nodes (λ k d less.
          subst (λ n. is_end n ≡ true) (get_or_default nodes k (bare 0) d less)
          (ended (λ a b a_in b_in begin.
          let all = (list_all-Decides _ nodes).0 t a a_in in
          let one : not (begins a b) ≡ true = (list_all-Decides _ nodes).0 all b b_in in
          false≢true (ap not (sym begin) ∙ one)) k less))

      to_free : list_all is_end nodes ≡ true → is_prefix_free codes ≡ true
      to_free t = (list_all-Decides (λ a. list_all (λ b. not (begins a b)) codes) nodes).1 (λ a a_in.
          (list_all-Decides (λ b. not (begins a b)) nodes).1 (λ b b_in. ap not (false_from_ne_true (begins a b) (free t a b a_in b_in))))
