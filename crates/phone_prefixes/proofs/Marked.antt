-- A mark more.
use Rattle.std.proofs.Common.{◌≡◌, ◌≢◌, ◌⊎◌, inl, inr, ℕ, ◌+◌, ◌-◌, ◌<◌, true, cond, List, [], ◌∷◌, ◌++◌, length, get_or, set, reverse, Option, Some, None, refl, ap, ap₂, sym, subst, ◌∙◌, arith, length-set, get_or-set_same, get_or-set_other}
use Rattle.std.proofs.lemmas.Bool.{cases_eq, cond-false, ne_eqb}
use Rattle.std.proofs.lemmas.List.{reverse-append, reverse-reverse}
use Rattle.std.specs.Char.{is_ascii_digit}
use Rattle.phone_prefixes.specs.declared.node.Node.{Node}
use Rattle.phone_prefixes.specs.Marks.{IsMarked}
use Rattle.phone_prefixes.specs.Nodes.{bare, child_at, mark_at, mark_back, mark_of, node_at, some_mark, some_place, walk, IsGrown, IsTree}
use Rattle.phone_prefixes.proofs.Trees.{cond_same, cond_true, digit_small, mark_back-None, mark_back-Some, marking, node_is, walk-None, walk-Some}

-- a node's mark for a byte
abbrev pub with_mark_at : List Node → ℕ → ℕ → ℕ → List Node
with_mark_at old at byte number = set old at (marking (node_at old at) (byte - 48) number)

module _ (old : List Node) (at byte mark : ℕ) (tree : IsTree old) (inside : at < length old) (is : is_ascii_digit byte ≡ true) where
  abbrev new : List Node
  new = with_mark_at old at byte (mark + 1)

  at_it : node_at new at ≡ marking (node_at old at) (byte - 48) (mark + 1)
  at_it = get_or-set_same old at _ bare inside

  elsewhere : (k : ℕ) → k ≢ at → node_at new k ≡ node_at old k
  elsewhere k other = get_or-set_other old at k _ bare other

  children : (k : ℕ) → (node_at new k).children ≡ (node_at old k).children
  children k = step (cases_eq k at)
    where
      step : (k ≡ at) ⊎ (k ≢ at) → (node_at new k).children ≡ (node_at old k).children
      step (inl e) = ap (λ i. (node_at new i).children) e ∙ ap (λ n. n.children) at_it ∙ ap (λ i. (node_at old i).children) (sym e)
      step (inr other) = ap (λ n. n.children) (elsewhere k other)

  child_there : (k b : ℕ) → child_at new k b ≡ child_at old k b
  child_there k b = ap (λ c. cond (is_ascii_digit b) (some_place (get_or c (b - 48) 0)) None) (children k)

  -- each text leads where it did
  walk_there : (text : List ℕ) → walk new text ≡ walk old text
  walk_there [] = refl
  walk_there (b ∷ bytes) = by (walk old bytes) refl (walk_there bytes)
    where
      by : (o : Option ℕ) → walk old bytes ≡ o → walk new bytes ≡ walk old bytes → walk new (b ∷ bytes) ≡ walk old (b ∷ bytes)
      by None e same = walk-None new b bytes (same ∙ e) ∙ sym (walk-None old b bytes e)
      by (Some p) e same = walk-Some new b bytes p (same ∙ e) ∙ child_there p b ∙ sym (walk-Some old b bytes p e)

  mark_here : mark_at new at byte ≡ Some mark
  mark_here = cond_true (is_ascii_digit byte) _ _ is
      (ap (λ n. some_mark (get_or n.marks (byte - 48) 0)) at_it
      ∙ ap some_mark (get_or-set_same (node_at old at).marks (byte - 48) (mark + 1) 0 (let d = digit_small byte is in omega (arith, (tree.widths at inside).1, d.0, d.1)))
      ∙ some)
    where
      some : some_mark (mark + 1) ≡ Some mark
      some = grind arith

  mark_away : (k b : ℕ) → k ≢ at → mark_at new k b ≡ mark_at old k b
  mark_away k b other = ap (λ n. cond (is_ascii_digit b) (some_mark (get_or n.marks (b - 48) 0)) None) (elsewhere k other)

  mark_beside : (k b : ℕ) → k ≡ at → b ≢ byte → mark_at new k b ≡ mark_at old k b
  mark_beside k b e other = cond_same (is_ascii_digit b) _ _ (λ d.
      let u = digit_small b d in
      let v = digit_small byte is in
      ap (λ i. some_mark (get_or (node_at new i).marks (b - 48) 0)) e
      ∙ ap (λ n. some_mark (get_or n.marks (b - 48) 0)) at_it
      ∙ ap some_mark (get_or-set_other (node_at old at).marks (byte - 48) (b - 48) (mark + 1) 0 (λ f. other (omega (arith, f, u.0, v.0))))
      ∙ ap (λ i. some_mark (get_or (node_at old i).marks (b - 48) 0)) (sym e))

  pub marked_tree : IsTree new
  marked_tree = record {
    root = omega (arith, tree.root, length-set old at (marking (node_at old at) (byte - 48) (mark + 1)));
    inside = λ text place e. let less = tree.inside text place (sym (walk_there text) ∙ e) in omega (arith, less, length-set old at (marking (node_at old at) (byte - 48) (mark + 1)));
    apart = λ a b place e f. tree.apart a b place (sym (walk_there a) ∙ e) (sym (walk_there b) ∙ f);
    widths = λ k less. widths k (omega (arith, less, length-set old at (marking (node_at old at) (byte - 48) (mark + 1)))) (cases_eq k at);
  }
    where
      widths : (k : ℕ) → k < length old → (k ≡ at) ⊎ (k ≢ at) → (length (node_at new k).children ≡ 10) × (length (node_at new k).marks ≡ 10)
      widths k less (inr other) = let w = tree.widths k less in (ap length (children k) ∙ w.0, ap (λ n. length n.marks) (elsewhere k other) ∙ w.1)
      widths k less (inl e) = let w = tree.widths k less in (
        ap length (children k) ∙ w.0,
        ap (λ i. length (node_at new i).marks) e ∙ ap (λ n. length n.marks) at_it ∙ length-set (node_at old at).marks (byte - 48) (mark + 1) ∙ ap (λ i. length (node_at old i).marks) (sym e) ∙ w.1,
      )

  module _ (bytes : List ℕ) (leads : walk old bytes ≡ Some at) where
    has : mark_back new (byte ∷ bytes) ≡ Some mark
    has = mark_back-Some new byte bytes at (walk_there bytes ∙ leads) ∙ mark_here

    others : (text : List ℕ) → (text ≡ byte ∷ bytes → ⊥) → mark_back new text ≡ mark_back old text
    others [] other = refl
    others (b ∷ rest) other = by (walk old rest) refl
      where
        by : (o : Option ℕ) → walk old rest ≡ o → mark_back new (b ∷ rest) ≡ mark_back old (b ∷ rest)
        by None e = mark_back-None new b rest (walk_there rest ∙ e) ∙ sym (mark_back-None old b rest e)
        by (Some p) e = mark_back-Some new b rest p (walk_there rest ∙ e) ∙ same (cases_eq p at) (cases_eq b byte) ∙ sym (mark_back-Some old b rest p e)
          where
            same : (p ≡ at) ⊎ (p ≢ at) → (b ≡ byte) ⊎ (b ≢ byte) → mark_at new p b ≡ mark_at old p b
            same (inr away) f = mark_away p b away
            same (inl a) (inr away) = mark_beside p b a away
            same (inl a) (inl f) = absurd (other (ap (λ x. x ∷ rest) f ∙ ap (λ xs. byte ∷ xs) (tree.apart rest bytes p e (leads ∙ sym (ap Some a)))))

-- a text's mark is that of its bytes from the last to the first
pub mark_of-end : (nodes : List Node) (front : List ℕ) (byte : ℕ) → mark_of nodes (front ++ byte ∷ []) ≡ mark_back nodes (byte ∷ reverse front)
mark_of-end nodes front byte = ap (mark_back nodes) (reverse-append front (byte ∷ []))

pub is_marked : (old : List Node) (at byte mark : ℕ) (front : List ℕ) → IsTree old → at < length old → is_ascii_digit byte ≡ true → walk old (reverse front) ≡ Some at →
    IsMarked (mark_of old) (mark_of (with_mark_at old at byte (mark + 1))) (front ++ byte ∷ []) mark
is_marked old at byte mark front tree inside is leads = record {
  has = mark_of-end (with_mark_at old at byte (mark + 1)) front byte ∙ has old at byte mark tree inside is (reverse front) leads;
  others = λ other away. others old at byte mark tree inside is (reverse front) leads (reverse other)
      (λ e. away (sym (reverse-reverse other) ∙ ap reverse e ∙ ap reverse (sym (reverse-append front (byte ∷ []))) ∙ reverse-reverse (front ++ byte ∷ [])));
}

-- as a node's new value says it
pub set_marked : (old : List Node) (at byte column mark number : ℕ) (node : Node) (front : List ℕ) → IsTree old → at < length old → is_ascii_digit byte ≡ true → node ≡ get_or old at node → column ≡ byte - 48 → number ≡ mark + 1 →
    walk old (reverse front) ≡ Some at → IsMarked (mark_of old) (mark_of (set old at (marking node column number))) (front ++ byte ∷ []) mark
set_marked old at byte column mark number node front tree inside is read column_is number_is leads =
    subst (λ (new : List Node). IsMarked (mark_of old) (mark_of new) (front ++ byte ∷ []) mark) (sym (same (node_is old at node inside read)))
    (is_marked old at byte mark front tree inside is leads)
  where
    same : node ≡ node_at old at → set old at (marking node column number) ≡ with_mark_at old at byte (mark + 1)
    same node_e = rw (node_e, column_is, number_is) refl

pub set_tree : (old : List Node) (at byte column mark number : ℕ) (node : Node) → IsTree old → at < length old → is_ascii_digit byte ≡ true → node ≡ get_or old at node → column ≡ byte - 48 → number ≡ mark + 1 →
    IsTree (set old at (marking node column number))
set_tree old at byte column mark number node tree inside is read column_is number_is =
    subst IsTree (sym (same (node_is old at node inside read))) (marked_tree old at byte mark tree inside is)
  where
    same : node ≡ node_at old at → set old at (marking node column number) ≡ with_mark_at old at byte (mark + 1)
    same node_e = rw (node_e, column_is, number_is) refl

-- a node's mark that was read
pub mark_read : (old : List Node) (at byte column number : ℕ) (node : Node) → at < length old → is_ascii_digit byte ≡ true → node ≡ get_or old at node → column ≡ byte - 48 → number ≡ get_or node.marks column 0 → mark_at old at byte ≡ some_mark number
mark_read old at byte column number node inside is read column_is number_is =
    cond_true (is_ascii_digit byte) _ _ is
    (ap₂ (λ (n : Node) i. some_mark (get_or n.marks i 0)) (sym (node_is old at node inside read)) (sym column_is) ∙ ap some_mark (sym number_is))

pub some_mark-Some : (n : ℕ) → (n ≡ 0 → ⊥) → some_mark n ≡ Some (n - 1)
some_mark-Some n f = cond-false _ _ _ (ne_eqb n 0 f)

-- a text's mark, by where its front leads
pub mark_through : (old mid : List Node) (at byte : ℕ) (front : List ℕ) → IsGrown old mid → walk mid (reverse front) ≡ Some at → mark_of old (front ++ byte ∷ []) ≡ mark_at mid at byte
mark_through old mid at byte front grown leads =
    mark_of-end old front byte ∙ sym (grown.marks (byte ∷ reverse front)) ∙ mark_back-Some mid byte (reverse front) at leads

-- marks of trees that have the same
pub marked_through : (old mid new : List Node) (text : List ℕ) (mark : ℕ) → IsGrown old mid → IsMarked (mark_of mid) (mark_of new) text mark → IsMarked (mark_of old) (mark_of new) text mark
marked_through _ _ _ text mark grown h = record { has = h.has; others = λ other away. h.others other away ∙ grown.marks (reverse other) }
