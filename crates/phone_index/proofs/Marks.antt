-- A node that lists its number.
use Rattle.std.proofs.Common.{◌≡◌, ◌≢◌, ◌⊎◌, inl, inr, ⊎_elim, ℕ, ◌/◌, ◌<◌, ◌≤◌, ◌==◌, ◌||◌, true, List, length, get_or, set, ap, sym, subst, ◌∙◌, arith, length-set, get_or-set_same, get_or-set_other}
use Rattle.std.proofs.lemmas.Bool.{cases_eq, cases_lt, false≢true}
use Rattle.std.proofs.lemmas.Bool.Decides.{same_from_decides, Decides-eqb, Decides-like, Decides-or}
use Rattle.phone_index.specs.declared.node.Node.{Node}
use Rattle.phone_index.specs.ListedCodes.{is_in}
use Rattle.phone_index.specs.Nodes.{bare, child_of, listed_by, node_at, IsFront, IsPlaceOf, IsTree, IsTrie, Lists}
use Rattle.phone_index.proofs.Listed.{is_in-Decides, node_is}

-- a node has the number and the children that it had
abbrev IsAlike : List Node → List Node → ℕ → Type 0
IsAlike old new k = ((node_at new k).number ≡ (node_at old k).number) × ((node_at new k).children ≡ (node_at old k).children)

-- the node at a place lists its number, and the rest is as it was
record IsMarked (old new : List Node) (place : ℕ) : Type 0 where
  counted : length new ≡ length old
  alike : (k : ℕ) → IsAlike old new k
  marked : (node_at new place).listed ≡ true
  others : (k : ℕ) → k ≢ place → (node_at new k).listed ≡ (node_at old k).listed

module _ (old new : List Node) (place : ℕ) (h : IsMarked old new place) where
  child : (k d : ℕ) → child_of (node_at new k) d ≡ child_of (node_at old k) d
  child k d = ap (λ xs. get_or xs d 0) (h.alike k).1

  marked_tree : IsTree old → IsTree new
  marked_tree tree = record {
    root = (omega (arith, h.counted, tree.root.0), (h.alike 0).0 ∙ tree.root.1);
    numbers = λ k later less. let e = (h.alike k).0 in let n = tree.numbers k later (omega (arith, less, h.counted)) in (omega (arith, e, n.0), omega (arith, e, n.1));
    apart = λ j k j_less k_less e. tree.apart j k (omega (arith, j_less, h.counted)) (omega (arith, k_less, h.counted)) (sym (h.alike j).0 ∙ e ∙ (h.alike k).0);
    widths = λ k less. ap length (h.alike k).1 ∙ tree.widths k (omega (arith, less, h.counted));
    leads = λ k d less digit some. rw (child k d, h.counted, (h.alike (child_of (node_at old k) d)).0, (h.alike k).0) (tree.leads k d (omega (arith, less, h.counted)) digit (rw child at some));
    ends = λ k d j k_less digit free later j_less e. tree.ends k d j (omega (arith, k_less, h.counted)) digit (sym (child k d) ∙ free) later (omega (arith, j_less, h.counted)) (omega (arith, e, (h.alike j).0, (h.alike k).0));
    fronts = λ k less. let f = tree.fronts k (omega (arith, less, h.counted)) in (f.0, omega (arith, f.1, h.counted), (h.alike f.0).0 ∙ f.2 ∙ ap (λ n. n / 10) (sym (h.alike k).0));
  }

module _ (old mid new : List Node) (code place : ℕ) (made : IsPlaceOf old mid code place) (h : IsMarked mid new place) where
  lists_code : Lists new code
  lists_code = (place, omega (arith, made.inside, h.counted), h.marked, (h.alike place).0 ∙ made.is)

  -- what was listed still is
  still_lists : (n : ℕ) → Lists old n → Lists new n
  still_lists n (k, less, l, e) = (
    k,
    omega (arith, less, made.grown.longer, h.counted),
    listed (cases_eq k place),
    (h.alike k).0 ∙ (made.grown.kept k less).0 ∙ e,
  )
    where
      listed : (k ≡ place) ⊎ (k ≢ place) → (node_at new k).listed ≡ true
      listed (inl at) = ap (λ i. (node_at new i).listed) at ∙ h.marked
      listed (inr other) = h.others k other ∙ (made.grown.kept k less).1 ∙ l

  -- what is listed otherwise was
  listed_before : (n : ℕ) → Lists new n → (n ≡ code) ⊎ Lists old n
  listed_before n (k, less, l, e) = by_place (cases_eq k place)
    where
      by_place : (k ≡ place) ⊎ (k ≢ place) → (n ≡ code) ⊎ Lists old n
      by_place (inl at) = inl (sym e ∙ ap (λ i. (node_at new i).number) at ∙ (h.alike place).0 ∙ made.is)
      by_place (inr other) = by_age (cases_lt k (length old))
        where
          by_age : (k < length old) ⊎ (length old ≤ k) → (n ≡ code) ⊎ Lists old n
          by_age (inl before) = let g = made.grown.kept k before in inr (k, before, sym g.1 ∙ sym (h.others k other) ∙ l, sym g.0 ∙ sym (h.alike k).0 ∙ e)
          by_age (inr past) = absurd (false≢true (sym (made.grown.added k past (omega (arith, less, h.counted))).0 ∙ sym (h.others k other) ∙ l))

  marked_trie : IsTrie old → IsTrie new
  marked_trie trie = record {
    tree = marked_tree mid new place h made.tree;
    on_way = λ k later less. on_way k later less (cases_lt k (length old));
  }
    where
      on_way : (k : ℕ) → 0 < k → k < length new → (k < length old) ⊎ (length old ≤ k) → (n : ℕ) × Lists new n × IsFront (node_at new k).number n
      on_way k later less (inl before) =
          let w = trie.on_way k later before in
          (w.0, still_lists w.0 w.1, subst (λ m. IsFront m w.0) (sym ((h.alike k).0 ∙ (made.grown.kept k before).0)) w.2)
      on_way k later less (inr past) =
          (code, lists_code, subst (λ m. IsFront m code) (sym (h.alike k).0) (made.grown.added k past (omega (arith, less, h.counted))).1)

  marked_codes : (n : ℕ) → is_in n (listed_by new) ≡ (n == code || is_in n (listed_by old))
  marked_codes n = same_from_decides _ _ (is_in-Decides n new)
      (Decides-like _ (⊎_elim (λ e. subst (Lists new) (sym e) lists_code) (still_lists n)) (listed_before n) (Decides-or _ _ (Decides-eqb n code) (is_in-Decides n old)))

-- the node lists its number
abbrev pub listing : Node → Node
listing n = record n { listed = true }

module _ (old mid : List Node) (code place : ℕ) (n : Node) (made : IsPlaceOf old mid code place) (at : n ≡ get_or mid place n) where
  is_marked : IsMarked mid (set mid place (listing n)) place
  is_marked = record {
    counted = length-set mid place (listing n);
    alike = λ k. alike k (cases_eq k place);
    marked = ap (λ (m : Node). m.listed) here;
    others = λ k other. ap (λ (m : Node). m.listed) (elsewhere k other);
  }
    where
      here : node_at (set mid place (listing n)) place ≡ listing (node_at mid place)
      here = get_or-set_same mid place (listing n) (bare 0) made.inside ∙ ap listing (node_is mid place n made.inside at)

      elsewhere : (k : ℕ) → k ≢ place → node_at (set mid place (listing n)) k ≡ node_at mid k
      elsewhere k other = get_or-set_other mid place k (listing n) (bare 0) other

      alike : (k : ℕ) → (k ≡ place) ⊎ (k ≢ place) → IsAlike mid (set mid place (listing n)) k
      alike k (inl e) = subst (IsAlike mid (set mid place (listing n))) (sym e) (ap (λ (m : Node). m.number) here, ap (λ (m : Node). m.children) here)
      alike k (inr other) = let e = elsewhere k other in (ap (λ (m : Node). m.number) e, ap (λ (m : Node). m.children) e)

  -- where a trie's node is marked it stays one
  pub still_trie : IsTrie old → IsTrie (set mid place (listing n))
  still_trie trie = marked_trie old mid (set mid place (listing n)) code place made is_marked trie

  -- and it has the node's code as well
  pub one_more : (c : ℕ) → is_in c (listed_by (set mid place (listing n))) ≡ (c == code || is_in c (listed_by old))
  one_more c = marked_codes old mid (set mid place (listing n)) code place made is_marked c
