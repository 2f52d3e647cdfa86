-- A walk from the root along the digits of a text.
use Rattle.std.proofs.Common.{◌≡◌, ◌⊎◌, inl, inr, ℕ, zero, suc, ◌+◌, ◌-◌, ◌*◌, ◌<◌, ◌≤◌, Bool, true, false, cond, List, length, take, get_or, Option, None, Some, refl, ap, sym, subst, ◌∙◌, arith}
use Rattle.std.proofs.Math.Numerals.{add-one}
use Rattle.std.proofs.lemmas.Bool.{cases_lt, false≢true}
use Rattle.std.specs.Char.{is_ascii_digit}
use Rattle.std.specs.Option.{option_or}
use Rattle.std.specs.Prelude.{codes}
use Rattle.std.specs.Str.{all_ascii_digits, bytes_eq}
use Rattle.std.specs.Str.Parse.{digits_value}
use Rattle.phone_index.specs.declared.node.Node.{Node}
use Rattle.phone_index.specs.ListedCodes.{front_number, if_in, is_in, shortest}
use Rattle.phone_index.specs.Nodes.{child_of, code_of, listed_by, node_at, HasNode, IsTree}
use Rattle.phone_index.proofs.Ends.{has_front, lists_has, not_root}
use Rattle.phone_index.proofs.Listed.{is_in_from_Lists, node_is, Lists_from_is_in}
use Rattle.phone_index.proofs.Texts.{a_code, digit_in, fronts_of, in_range, more_digits, more_value, no_code, starts_otherwise, starts_with_0}

-- no code is among the first k fronts of a text
abbrev pub HasNone : List ℕ → List ℕ → ℕ → Type 0
HasNone listed text k = (j : ℕ) → 0 < j → j ≤ k → if_in listed (front_number j text) ≡ None

-- after k digits of the text the place is that of the number that they write, and there was no code on the way
pub record IsWalk (nodes : List Node) (text : List ℕ) (k place : ℕ) : Type 0 where
  pub enough : k ≤ length text
  pub digits : all_ascii_digits (take k text) ≡ true
  pub inside : place < length nodes
  pub number : (node_at nodes place).number ≡ digits_value 10 (take k text)
  pub begun : 0 < k → (0 < place) × (bytes_eq (take 1 text) (codes "0") ≡ false)
  pub none : HasNone (listed_by nodes) text k

code_parts : (n : Node) (code : ℕ) → Some code ≡ code_of n → (n.listed ≡ true) × (code ≡ n.number)
code_parts n code e = step n.listed e
  where
    step : (b : Bool) → Some code ≡ cond b (Some n.number) None → (b ≡ true) × (code ≡ n.number)
    step true e = (refl, cc)
    step false e = absurd cc

no_code_parts : (n : Node) → None ≡ code_of n → n.listed ≡ false
no_code_parts n e = step n.listed e
  where
    step : (b : Bool) → None ≡ cond b (Some n.number) None → b ≡ false
    step true e = absurd cc
    step false e = refl

-- the next byte is a digit, which leads from the place to the next
pub record IsStep (nodes : List Node) (text : List ℕ) (k place next : ℕ) : Type 0 where
  pub inside : k < length text
  pub digit : is_ascii_digit (get_or text k 0) ≡ true
  pub leads : next ≡ child_of (node_at nodes place) (get_or text k 0 - 48)

module _ (listed text : List ℕ) where
  -- the shortest of codes of which there is none
  shortest-none : HasNone listed text 3 → shortest listed text ≡ None
  shortest-none h = step (bytes_eq (take 1 text) (codes "0")) _ _ _ (h 1 (omega arith) (omega arith)) (h 2 (omega arith) (omega arith)) (h 3 (omega arith) (omega arith))
    where
      step : (b : Bool) (x y z : Option ℕ) → x ≡ None → y ≡ None → z ≡ None → cond b None (option_or x (option_or y z)) ≡ None
      step true x y z e f g = refl
      step false x y z e f g = ap (λ o. option_or o (option_or y z)) e ∙ ap (λ o. option_or o z) f ∙ g

  shortest-zero : bytes_eq (take 1 text) (codes "0") ≡ true → shortest listed text ≡ None
  shortest-zero e = step (bytes_eq (take 1 text) (codes "0")) _ e
    where
      step : (b : Bool) (x : Option ℕ) → b ≡ true → cond b None x ≡ None
      step true x e = refl
      step false x e = absurd (false≢true e)

  -- and where the first is the next
  shortest-next : (k n : ℕ) → k < 3 → HasNone listed text k → bytes_eq (take 1 text) (codes "0") ≡ false → if_in listed (front_number (suc k) text) ≡ Some n → shortest listed text ≡ Some n
  shortest-next zero n less h b e = step (bytes_eq (take 1 text) (codes "0")) _ _ b e
    where
      step : (b : Bool) (x y : Option ℕ) → b ≡ false → x ≡ Some n → cond b None (option_or x y) ≡ Some n
      step true x y b e = absurd (false≢true (sym b))
      step false x y b e = ap (λ o. option_or o y) e
  shortest-next (suc zero) n less h b e = step (bytes_eq (take 1 text) (codes "0")) _ _ _ b (h 1 (omega arith) (omega arith)) e
    where
      step : (b : Bool) (x y z : Option ℕ) → b ≡ false → x ≡ None → y ≡ Some n → cond b None (option_or x (option_or y z)) ≡ Some n
      step true x y z b f e = absurd (false≢true (sym b))
      step false x y z b f e = ap (λ o. option_or o (option_or y z)) f ∙ ap (λ o. option_or o z) e
  shortest-next (suc (suc zero)) n less h b e = step (bytes_eq (take 1 text) (codes "0")) _ _ _ b (h 1 (omega arith) (omega arith)) (h 2 (omega arith) (omega arith)) e
    where
      step : (b : Bool) (x y z : Option ℕ) → b ≡ false → x ≡ None → y ≡ None → z ≡ Some n → cond b None (option_or x (option_or y z)) ≡ Some n
      step true x y z b f g e = absurd (false≢true (sym b))
      step false x y z b f g e = ap (λ o. option_or o (option_or y z)) f ∙ ap (λ o. option_or o z) g ∙ e
  shortest-next (suc (suc (suc k))) n less h b e = absurd (omega (arith, less))

module _ (nodes : List Node) (text : List ℕ) (k place : ℕ) (walk : IsWalk nodes text k place) where
  abbrev listed : List ℕ
  listed = listed_by nodes

  -- after the walk there is no code where there is none further on
  stops : ((j : ℕ) → k < j → j ≤ length text → all_ascii_digits (take j text) ≡ true → is_in (digits_value 10 (take j text)) listed ≡ true → ⊥) → shortest listed text ≡ None
  stops f = shortest-none listed text (λ j some less. step j some (cases_lt k j))
    where
      step : (j : ℕ) → 0 < j → (k < j) ⊎ (j ≤ k) → if_in listed (front_number j text) ≡ None
      step j some (inl later) = no_code listed text j (f j later)
      step j some (inr before) = walk.none j some before

  pub ends_with_text : length text ≤ k → shortest listed text ≡ None
  ends_with_text short = stops (λ j later inside digits code. omega (arith, short, later, inside))

  pub ends_with_digits : k < length text → is_ascii_digit (get_or text k 0) ≡ false → shortest listed text ≡ None
  ends_with_digits inside other = stops (λ j later all digits code. false≢true (sym other ∙ digit_in text j k digits later inside))

  module _ (tree : IsTree nodes) (next : ℕ) (move : IsStep nodes text k place next) where
    abbrev d : ℕ
    d = get_or text k 0 - 48

    abbrev number : ℕ
    number = digits_value 10 (take (suc k) text)

    small : d < 10
    small = omega (arith, (in_range (get_or text k 0) move.digit).1)

    value : number ≡ 10 * (node_at nodes place).number + d
    value = more_value text k d move.inside move.digit refl ∙ ap (λ n. 10 * n + d) (sym walk.number)

    first : k ≡ 0 → (node_at nodes place).number ≡ 0
    first e = walk.number ∙ ap (λ i. digits_value 10 (take i text)) e

    -- after a number that isn't 0 the text doesn't begin with `0`
    not_0 : 0 < number → bytes_eq (take 1 text) (codes "0") ≡ false
    not_0 some = step (cases_lt 0 k)
      where
        step : (0 < k) ⊎ (k ≤ 0) → bytes_eq (take 1 text) (codes "0") ≡ false
        step (inl later) = (walk.begun later).1
        step (inr none) =
            let e : k ≡ 0 = omega (arith, none) in
            let z : (node_at nodes place).number ≡ 0 = first e in
            starts_otherwise text (omega (arith, move.inside)) (λ f.
            let g : get_or text k 0 ≡ 48 = ap (λ i. get_or text i 0) e ∙ f in
            absurd (omega (arith, some, value, z, g)))

    -- where no digit leads on there is no code
    pub ends_with_codes : next ≡ 0 → shortest listed text ≡ None
    ends_with_codes none = by_number (cases_lt 0 number)
      where
        missing : 0 < number → HasNode nodes number → ⊥
        missing some (i, less, e) = tree.ends place d i walk.inside small (sym move.leads ∙ none) (not_root nodes tree i number e some) less (e ∙ value)

        by_length : number ≤ 0 → (0 < k) ⊎ (k ≤ 0) → shortest listed text ≡ None
        by_length low (inl later) = let n = (tree.numbers place (walk.begun later).0 walk.inside).0 in absurd (omega (arith, low, n, value))
        by_length low (inr none) =
            let e : k ≡ 0 = omega (arith, none) in
            let g : get_or text k 0 ≡ 48 = omega (arith, low, value, (in_range (get_or text k 0) move.digit).0) in
            shortest-zero listed text (starts_with_0 text (omega (arith, move.inside)) (sym (ap (λ i. get_or text i 0) e) ∙ g))

        by_number : (0 < number) ⊎ (number ≤ 0) → shortest listed text ≡ None
        by_number (inl some) = stops (λ j later all digits code.
            missing some (has_front nodes tree number _ (fronts_of text j (suc k) (omega (arith, later)) all digits) (lists_has nodes _ (Lists_from_is_in _ nodes code))))
        by_number (inr low) = by_length low (cases_lt 0 k)

    module _ (on : 0 < next) where
      led : (next < length nodes) × ((node_at nodes next).number ≡ number)
      led =
          let l = subst (λ i. (i < length nodes) × ((node_at nodes i).number ≡ 10 * (node_at nodes place).number + d)) (sym move.leads) (tree.leads place d walk.inside small (rw (← move.leads) on)) in
          (l.0, l.1 ∙ sym value)

      more : all_ascii_digits (take (suc k) text) ≡ true
      more = more_digits text k walk.digits move.digit

      some_number : 0 < number
      some_number = omega (arith, (tree.numbers next on led.0).0, led.1)

      -- where a digit leads to a code this is the shortest
      pub finds : k < 3 → (n : Node) → n ≡ get_or nodes next n → (code : ℕ) → Some code ≡ code_of n → shortest listed text ≡ Some code
      finds few n n_at code is =
          let at = node_is nodes next n led.0 n_at in
          let h = code_parts (node_at nodes next) code (is ∙ ap code_of at) in
          shortest-next listed text k number few walk.none (not_0 some_number) (a_code listed text (suc k) (omega (arith, move.inside)) more (is_in_from_Lists number nodes (next, led.0, h.0, led.1)))
          ∙ ap Some (sym (h.1 ∙ led.1))

      -- where it leads to none the walk goes on
      pub goes_on : (n : Node) → n ≡ get_or nodes next n → None ≡ code_of n → IsWalk nodes text (k + 1) next
      goes_on n n_at is = rw add-one (record {
        enough = omega (arith, move.inside);
        digits = more;
        inside = led.0;
        number = led.1;
        begun = λ _. (on, not_0 some_number);
        none = λ j some less. none j some less (cases_lt k j);
      })
        where
          listed_here : (i : ℕ) → i < length nodes → (node_at nodes i).listed ≡ true → (node_at nodes i).number ≡ number → ⊥
          listed_here i less l e =
              let at : i ≡ next = tree.apart i next less led.0 (e ∙ sym led.1) in
              let free = no_code_parts (node_at nodes next) (is ∙ ap code_of (node_is nodes next n led.0 n_at)) in
              false≢true (sym free ∙ sym (ap (λ j. (node_at nodes j).listed) at) ∙ l)

          here : if_in listed (front_number (suc k) text) ≡ None
          here = no_code listed text (suc k) (λ all digits code. let h = Lists_from_is_in number nodes code in listed_here h.0 h.1 h.2 h.3)

          none : (j : ℕ) → 0 < j → j ≤ suc k → (k < j) ⊎ (j ≤ k) → if_in listed (front_number j text) ≡ None
          none j some less (inr before) = walk.none j some before
          none j some less (inl later) = let e : j ≡ suc k = omega (arith, less, later) in subst (λ i. if_in listed (front_number i text) ≡ None) (sym e) here
