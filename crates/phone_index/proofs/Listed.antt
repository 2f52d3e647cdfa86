-- What nodes list.
use Rattle.std.proofs.Common.{◌≡◌, ℕ, zero, suc, Bool, true, false, cond, ◌==◌, ◌||◌, List, [], ◌∷◌, length, get_or, map, filter, refl, ap, sym, ◌∙◌, arith, ◌<◌}
use Rattle.std.proofs.lemmas.Bool.{eq-eqb, eqb-true, false≢true}
use Rattle.std.proofs.lemmas.List.{get_or_default}
use Rattle.std.specs.Bool.{Decides}
use Rattle.std.proofs.lemmas.List.Folds.{list_any_at, Any-from_list_any}
use Rattle.std.proofs.lemmas.List.Sums.{list_all-from_AllPass, AllPass-from_list_all}
use Rattle.std.specs.List.{list_all, list_any}
use Rattle.phone_index.specs.declared.node.Node.{Node}
use Rattle.phone_index.specs.ListedCodes.{is_in}
use Rattle.phone_index.specs.Nodes.{bare, listed_by, node_at, Lists}

-- a node that was read at a place
pub node_is : (nodes : List Node) (place : ℕ) (n : Node) → place < length nodes → n ≡ get_or nodes place n → n ≡ node_at nodes place
node_is nodes place n inside e = e ∙ get_or_default nodes place n (bare 0) inside

-- a code among those that nodes list is listed by one of them
pub Lists_from_is_in : (code : ℕ) (nodes : List Node) → is_in code (listed_by nodes) ≡ true → Lists nodes code
Lists_from_is_in code [] t = absurd (false≢true t)
Lists_from_is_in code (n ∷ ns) t = step n.listed refl (n.number == code) refl t (Lists_from_is_in code ns)
  where
    later : Lists ns code → Lists (n ∷ ns) code
    later h = (suc h.0, omega (arith, h.1), h.2, h.3)

    step : (l : Bool) → n.listed ≡ l → (b : Bool) → (n.number == code) ≡ b →
        list_any (λ c. c == code) (map (λ (m : Node). m.number) (cond l (n ∷ filter (λ m. m.listed) ns) (filter (λ m. m.listed) ns))) ≡ true →
        (is_in code (listed_by ns) ≡ true → Lists ns code) → Lists (n ∷ ns) code
    step false l b e t rest = later (rest t)
    step true l true e t rest = (0, omega arith, l, eqb-true n.number code e)
    step true l false e t rest = later (rest (ap (λ b. b || is_in code (listed_by ns)) (sym e) ∙ t))

-- the converse
pub is_in_from_Lists : (code : ℕ) (nodes : List Node) → Lists nodes code → is_in code (listed_by nodes) ≡ true
is_in_from_Lists code [] (k, inside, l, e) = absurd (omega (arith, inside))
is_in_from_Lists code (n ∷ ns) (zero, inside, l, e) = here n.listed l
  where
    here : (b : Bool) → b ≡ true → list_any (λ c. c == code) (map (λ (m : Node). m.number) (cond b (n ∷ filter (λ m. m.listed) ns) (filter (λ m. m.listed) ns))) ≡ true
    here true l = ap (λ b. b || is_in code (listed_by ns)) (eq-eqb n.number code e)
    here false l = absurd (false≢true l)
is_in_from_Lists code (n ∷ ns) (suc k, inside, l, e) = later n.listed (n.number == code) refl (is_in_from_Lists code ns (k, omega (arith, inside), l, e))
  where
    later : (l b : Bool) → (n.number == code) ≡ b → is_in code (listed_by ns) ≡ true →
        list_any (λ c. c == code) (map (λ (m : Node). m.number) (cond l (n ∷ filter (λ m. m.listed) ns) (filter (λ m. m.listed) ns))) ≡ true
    later false b e h = h
    later true true e h = ap (λ b. b || is_in code (listed_by ns)) e
    later true false e h = ap (λ b. b || is_in code (listed_by ns)) e ∙ h

pub is_in-Decides : (code : ℕ) (nodes : List Node) → Decides (is_in code (listed_by nodes)) (Lists nodes code)
is_in-Decides code nodes = (Lists_from_is_in code nodes, is_in_from_Lists code nodes)

-- all codes that nodes list pass a test just if each does that a node lists
pub list_all-Decides : (p : ℕ → Bool) (nodes : List Node) → Decides (list_all p (listed_by nodes)) ((code : ℕ) → Lists nodes code → p code ≡ true)
list_all-Decides p nodes = (
  (λ t code l.
      let h = Any-from_list_any (λ c. c == code) (listed_by nodes) (is_in_from_Lists code nodes l) in
      ap p (sym (h.3 ∙ eqb-true h.1 code h.4)) ∙ AllPass-from_list_all p (listed_by nodes) t h.0 h.1 h.2),
  (λ f. list_all-from_AllPass p (listed_by nodes) (λ k d less.
      let code = get_or (listed_by nodes) k d in
      f code (Lists_from_is_in code nodes (list_any_at (λ c. c == code) (listed_by nodes) k d less (eq-eqb code code refl))))),
)
