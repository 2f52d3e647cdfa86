-- The longest front of a text that has a mark.
use Rattle.std.proofs.Common.{◌≡◌, ◌⊎◌, inl, inr, ℕ, ◌+◌, ◌-◌, ◌<◌, ◌≤◌, true, false, List, [], ◌∷◌, ◌++◌, length, get_or, reverse, take, drop, Option, Some, None, ap, ap₂, sym, ◌∙◌, arith, length-append}
use Rattle.std.specs.Prelude.{MatchOption}
use Rattle.std.proofs.Math.Seq.{take-append_seam}
use Rattle.std.proofs.lemmas.List.{reverse-append, take_more, take-append-drop, take-append-le, length-reverse, length-take}
use Rattle.std.proofs.lemmas.Bool.{cases_lt, cond-false, ne_eqb}
use Rattle.std.specs.Char.{is_ascii_digit}
use Rattle.std.specs.Option.{option_or}
use Rattle.phone_prefixes.specs.declared.node.Node.{Node}
use Rattle.phone_prefixes.specs.Marks.{Begins, IsLongestMark, Marks, MarksNone}
use Rattle.phone_prefixes.specs.Nodes.{child_at, mark_at, mark_back, mark_of, node_at, some_mark, some_place, walk, IsTree}
use Rattle.phone_prefixes.proofs.Trees.{cond_true, mark_back-None, mark_back-Some, node_is, walk-Some, walk-past}

-- the mark of the longest front of at most n bytes that has one, or that none has
abbrev pub IsBest : Marks → List ℕ → ℕ → Option ℕ → Type 0
IsBest marks text n best = MatchOption best (MarksNone marks text n) (IsLongestMark marks text n)

-- a front is the text's first bytes, as many as it has
front_take : (front text : List ℕ) → Begins front text → front ≡ take (length front) text
front_take front text (rest, e) = sym (take-append_seam front rest) ∙ ap (take (length front)) (sym e)

front_short : (front text : List ℕ) → Begins front text → length front ≤ length text
front_short front text (rest, e) = omega (arith, ap length e, length-append front rest)

take_begins : (n : ℕ) (text : List ℕ) → Begins (take n text) text
take_begins n text = (drop n text, sym (take-append-drop n text))

module _ (marks : Marks) (text : List ℕ) where
  -- where no longer front has a mark, there may be more bytes
  pub best_further : (n m : ℕ) (best : Option ℕ) → n ≤ m → ((front : List ℕ) → Begins front text → n < length front → length front ≤ m → marks front ≡ None) →
      IsBest marks text n best → IsBest marks text m best
  best_further n m None le none h = λ front begins short. step front begins short (cases_lt n (length front))
    where
      step : (front : List ℕ) → Begins front text → length front ≤ m → (n < length front) ⊎ (length front ≤ n) → marks front ≡ None
      step front begins short (inl longer) = none front begins longer short
      step front begins short (inr less) = h front begins less
  best_further n m (Some mark) le none h = record {
    front = h.front;
    begins = h.begins;
    short = omega (arith, h.short, le);
    marked = h.marked;
    longest = λ other begins short more. step other begins short more (cases_lt n (length other));
  }
    where
      step : (other : List ℕ) → Begins other text → length other ≤ m → length h.front < length other → (n < length other) ⊎ (length other ≤ n) → marks other ≡ None
      step other begins short more (inl longer) = none other begins longer short
      step other begins short more (inr less) = h.longest other begins less more

  -- a front one byte longer has a mark
  pub best_more : (n mark : ℕ) → n < length text → marks (take (n + 1) text) ≡ Some mark → IsBest marks text (n + 1) (Some mark)
  best_more n mark less e = record {
    front = take (n + 1) text;
    begins = take_begins (n + 1) text;
    short = omega (arith, length-take (n + 1) text);
    marked = e;
    longest = λ other begins short more. absurd (omega (arith, length-take (n + 1) text, short, more, less));
  }

  -- or it has none
  pub best_same : (n : ℕ) (best : Option ℕ) → marks (take (n + 1) text) ≡ None → IsBest marks text n best → IsBest marks text (n + 1) best
  best_same n best e h = best_further n (n + 1) best (omega arith) (λ front begins longer short.
      let l : length front ≡ n + 1 = omega (arith, longer, short) in
      ap marks (front_take front text begins ∙ ap (λ k. take k text) l) ∙ e) h

  -- no front is longer than the text
  pub best_all : (n m : ℕ) (best : Option ℕ) → n ≤ m → length text ≤ n → IsBest marks text n best → IsBest marks text m best
  best_all n m best le all h = best_further n m best le (λ front begins longer short. absurd (omega (arith, front_short front text begins, longer, all))) h

module _ (nodes : List Node) (text : List ℕ) where
  -- after some bytes of the text nothing stands, so no longer front has a mark
  past_end : (n : ℕ) → n ≤ length text → walk nodes (reverse (take n text)) ≡ None → (front : List ℕ) → Begins front text → n < length front → mark_of nodes front ≡ None
  past_end n le none front begins longer = step (drop n front) (sym (take-append-drop n front))
    where
      first : take n front ≡ take n text
      first = sym (take-append-le n front begins.0 (omega (arith, longer))) ∙ ap (take n) (sym begins.1)

      step : (more : List ℕ) → front ≡ take n front ++ more → mark_of nodes front ≡ None
      step more e = by (reverse more) (ap reverse e ∙ reverse-append (take n front) more ∙ ap (λ xs. reverse more ++ reverse xs) first)
        where
          by : (back : List ℕ) → reverse front ≡ back ++ reverse (take n text) → mark_of nodes front ≡ None
          by [] f = absurd (omega (arith, longer, le, length-take n text, ap length f, length-reverse front, length-reverse (take n text)))
          by (byte ∷ back) f = ap (mark_back nodes) f ∙ mark_back-None nodes byte (back ++ reverse (take n text)) (walk-past nodes back (reverse (take n text)) none)

  -- where the walk ends, the best so far is the best of all
  pub best_ends : (n m : ℕ) (best : Option ℕ) → n ≤ m → n ≤ length text → walk nodes (reverse (take n text)) ≡ None → IsBest (mark_of nodes) text n best → IsBest (mark_of nodes) text m best
  best_ends n m best le within none h = best_further (mark_of nodes) text n m best le (λ front begins longer short. past_end n within none front begins longer) h

  -- one byte further
  pub next_back : (k : ℕ) → k < length text → reverse (take (k + 1) text) ≡ get_or text k 0 ∷ reverse (take k text)
  next_back k less = ap reverse (take_more text k 0 less) ∙ reverse-append (take k text) (get_or text k 0 ∷ [])

  pub walk_next : (k place : ℕ) → k < length text → walk nodes (reverse (take k text)) ≡ Some place → walk nodes (reverse (take (k + 1) text)) ≡ child_at nodes place (get_or text k 0)
  walk_next k place less e = ap (walk nodes) (next_back k less) ∙ walk-Some nodes (get_or text k 0) (reverse (take k text)) place e

  pub mark_next : (k place : ℕ) → k < length text → walk nodes (reverse (take k text)) ≡ Some place → mark_of nodes (take (k + 1) text) ≡ mark_at nodes place (get_or text k 0)
  mark_next k place less e = ap (mark_back nodes) (next_back k less) ∙ mark_back-Some nodes (get_or text k 0) (reverse (take k text)) place e

-- one byte further, by the node after the bytes so far
module _ (nodes : List Node) (text : List ℕ) (k place digit : ℕ) (node : Node) (less : k < length text) (leads : walk nodes (reverse (take k text)) ≡ Some place) (tree : IsTree nodes) (is : node ≡ get_or nodes place node) (ascii : is_ascii_digit (get_or text k 0) ≡ true) (column : digit ≡ get_or text k 0 - 48) where
  node_e : node ≡ node_at nodes place
  node_e = node_is nodes place node (tree.inside (reverse (take k text)) place leads) is

  pub step_walk : walk nodes (reverse (take (k + 1) text)) ≡ some_place (get_or node.children digit 0)
  step_walk =
      walk_next nodes text k place less leads
      ∙ cond_true (is_ascii_digit (get_or text k 0)) _ _ ascii (ap₂ (λ (n : Node) i. some_place (get_or n.children i 0)) (sym node_e) (sym column))

  pub step_mark : mark_of nodes (take (k + 1) text) ≡ some_mark (get_or node.marks digit 0)
  step_mark =
      mark_next nodes text k place less leads
      ∙ cond_true (is_ascii_digit (get_or text k 0)) _ _ ascii (ap₂ (λ (n : Node) i. some_mark (get_or n.marks i 0)) (sym node_e) (sym column))

  pub step_best : (best : Option ℕ) → IsBest (mark_of nodes) text k best → IsBest (mark_of nodes) text (k + 1) (option_or (some_mark (get_or node.marks digit 0)) best)
  step_best best h = by (some_mark (get_or node.marks digit 0)) step_mark
    where
      by : (o : Option ℕ) → mark_of nodes (take (k + 1) text) ≡ o → IsBest (mark_of nodes) text (k + 1) (option_or o best)
      by None e = best_same (mark_of nodes) text k best e h
      by (Some m) e = best_more (mark_of nodes) text k m less e

  -- no further
  pub step_end : (best : Option ℕ) → k < 15 → get_or node.children digit 0 ≡ 0 → IsBest (mark_of nodes) text k best → IsBest (mark_of nodes) text 15 (option_or (some_mark (get_or node.marks digit 0)) best)
  step_end best small zero h = best_ends nodes text (k + 1) 15 _ (omega (arith, small)) (omega (arith, less)) (step_walk ∙ ap some_place zero) (step_best best h)

  pub step_on : (next : ℕ) → next ≡ get_or node.children digit 0 → (next ≡ 0 → ⊥) → walk nodes (reverse (take (k + 1) text)) ≡ Some next
  step_on next e some = step_walk ∙ ap some_place (sym e) ∙ cond-false _ _ _ (ne_eqb next 0 some)

-- where no digit is next
pub stop_best : (nodes : List Node) (text : List ℕ) (k place : ℕ) (best : Option ℕ) → k < 15 → k < length text → walk nodes (reverse (take k text)) ≡ Some place → is_ascii_digit (get_or text k 0) ≡ false →
    IsBest (mark_of nodes) text k best → IsBest (mark_of nodes) text 15 best
stop_best nodes text k place best small less leads off h =
    best_ends nodes text (k + 1) 15 best (omega (arith, small)) (omega (arith, less)) (walk_next nodes text k place less leads ∙ cond-false _ _ _ off)
    (best_same (mark_of nodes) text k best (mark_next nodes text k place less leads ∙ cond-false _ _ _ off) h)
