-- Rows that are moved two rows on tell what they told.
use Rattle.std.proofs.Common.{take, drop, ◌≡◌, ⊎_elim, ◌<◌, ◌≤◌, ◌+◌, ◌-◌, ◌/◌, ◌%◌, ◌++◌, ◌∷◌, []}
use Rattle.std.proofs.Common.{◌==◌, ℕ, zero, suc, cond, nat_lt, List, length, map, Option, Some}
use Rattle.std.proofs.Common.{None, slice_index, refl, sym, ap, ◌∙◌, subst, arith, eq-eqb, ne_eqb}
use Rattle.std.proofs.Common.{lt-ltb}
use Rattle.std.proofs.lemmas.Bool.{cases_eq, cases_lt, cond-true, cond-false, le-ltb}
use Rattle.std.proofs.lemmas.List.{append-nil, get_or_past, take_all, get_or_append_left}
use Rattle.std.proofs.lemmas.List.{get_or-append-add, length-append}
use Rattle.std.specs.Option.{option_or}
use Rattle.phone_automaton.specs.Digits.{cell_at, end_by, ends_here, or_here, place_of, AreDigits}
use Rattle.phone_automaton.specs.Digits.{HasRows}
use Rattle.phone_automaton.specs.Rows.{by_cell, by_row, moved, none, AreRows, IsPlace, LeadInto}
use Rattle.phone_automaton.proofs.Joining.{by_row_end, by_row_more}
use Rattle.phone_automaton.proofs.Reading.{no_cell_yet, nothing_left}
use Rattle.phone_automaton.proofs.Tabling.{dead_end}

-- where a row is after the move
abbrev new_place : ℕ → ℕ
new_place place = cond (place == 0) 0 (place + 22)

moved_small : (x : ℕ) → x < 2 → moved x ≡ x
moved_small x h = cond-true (nat_lt x 2) x (x + 44) (lt-ltb x 2 h)

moved_big : (x : ℕ) → 2 ≤ x → moved x ≡ x + 44
moved_big x h = cond-false (nat_lt x 2) x (x + 44) (le-ltb x 2 h)

moved_place : (x : ℕ) → place_of (moved x) ≡ new_place (place_of x)
moved_place x =
    ⊎_elim
    (λ (small : x < 2).
    let none : x / 2 ≡ 0 = omega (arith, small) in
    ap place_of (moved_small x small) ∙ none
    ∙ sym (cond-true (x / 2 == 0) 0 (x / 2 + 22) (eq-eqb (x / 2) 0 none)))
    (λ (big : 2 ≤ x).
    let further : (x + 44) / 2 ≡ x / 2 + 22 = omega arith in
    ap place_of (moved_big x big) ∙ further
    ∙ sym (cond-false (x / 2 == 0) 0 (x / 2 + 22) (ne_eqb (x / 2) 0 (omega (arith, big)))))
    (cases_lt x 2)

moved_ends : (x : ℕ) → ends_here (moved x) ≡ ends_here x
moved_ends x =
    ⊎_elim
    (λ (small : x < 2). ap ends_here (moved_small x small))
    (λ (big : 2 ≤ x). let same : (x + 44) % 2 ≡ x % 2 = omega arith in ap ends_here
    (moved_big x big) ∙ ap (λ n. n == 1) same)
    (cases_lt x 2)

map_at : (l : List ℕ) (k : ℕ) → slice_index (map moved l) k ≡ moved (slice_index l k)
map_at [] k = refl
map_at (x ∷ xs) zero = refl
map_at (x ∷ xs) (suc k) = map_at xs k

pub map_length : (l : List ℕ) → length (map moved l) ≡ length l
map_length [] = refl
map_length (x ∷ xs) = ap suc (map_length xs)

module _ (cells first : List ℕ) (eleven : length first ≡ 11) where
  abbrev pub table : List ℕ
  table = map moved (none ++ (first ++ cells))

  first_at : (c : ℕ) → c < 11 → cell_at table 11 c ≡ moved (slice_index first c)
  first_at c low =
      map_at (none ++ (first ++ cells)) (11 + c)
      ∙ ap moved (get_or-append-add none (first ++ cells) c 0
      ∙ get_or_append_left first cells 0 c (omega (arith, low, eleven)))

  moved_at : (place c : ℕ) → cell_at table (place + 22) c ≡ moved (cell_at cells place c)
  moved_at place c =
      let index : place + 22 + c ≡ 11 + (length first + (place + c)) = omega (arith, eleven) in
      map_at (none ++ (first ++ cells)) (place + 22 + c)
      ∙ ap (λ k. moved (slice_index (none ++ (first ++ cells)) k)) index
      ∙ ap moved (get_or-append-add none (first ++ cells) (length first + (place + c)) 0
      ∙ get_or-append-add first cells (place + c) 0)

  here_alike : (x y at : ℕ) (later : Option ℕ) → ends_here x ≡ ends_here y →
      or_here x at later ≡ or_here y at later
  here_alike x y at later same = ap (λ e. option_or later (cond e (Some at) None)) same

  nowhere : (text : List ℕ) (at place : ℕ) → place ≡ 0 →
      end_by table (new_place place) at text ≡ end_by cells place at text
  nowhere text at place none =
      ap (λ p. end_by table p at text) (cond-true (place == 0) 0 (place + 22) (eq-eqb place 0 none))
      ∙ dead_end table at text
      ∙ sym (ap (λ p. end_by cells p at text) none ∙ dead_end cells at text)

  there : (text : List ℕ) (at place : ℕ) → (place ≡ 0 → ⊥) →
      end_by table (new_place place) at text ≡ end_by table (place + 22) at text
  there text at place other = ap (λ p. end_by table p at text)
      (cond-false (place == 0) 0 (place + 22) (ne_eqb place 0 other))

  -- a moved row tells what it told
  same_end : (text : List ℕ) (at place : ℕ) →
      end_by table (new_place place) at text ≡ end_by cells place at text
  same_end [] at place =
      ⊎_elim
      (λ (start : place ≡ 0). nowhere [] at place start)
      (λ other.
      there [] at place other
      ∙ by_row_end table (place + 22) at (omega arith)
      ∙ ap (λ x. by_cell table x at None) (moved_at place 10)
      ∙ here_alike _ _ at None (moved_ends (cell_at cells place 10))
      ∙ sym (by_row_end cells place at (omega (arith, other))))
      (cases_eq place 0)
  same_end (b ∷ bs) at place =
      ⊎_elim
      (λ (start : place ≡ 0). nowhere (b ∷ bs) at place start)
      (λ other.
      let cell = cell_at cells place (b - 48) in
      there (b ∷ bs) at place other
      ∙ by_row_more table (place + 22) at b bs (omega arith)
      ∙ ap (λ x. by_cell table x at (Some bs)) (moved_at place (b - 48))
      ∙ ap (λ p. or_here (moved cell) at (end_by table p (at + 1) bs)) (moved_place cell)
      ∙ ap (or_here (moved cell) at) (same_end bs (at + 1) (place_of cell))
      ∙ here_alike _ _ at _ (moved_ends cell)
      ∙ sym (by_row_more cells place at b bs (omega (arith, other))))
      (cases_eq place 0)

  -- the table begins with the row that is put before the others
  pub begins : (hay : List ℕ) → AreDigits hay → end_by table 11 0 hay ≡ by_row cells first 0 hay
  begins [] digits =
      by_row_end table 11 0 (omega arith)
      ∙ ap (λ x. by_cell table x 0 None) (first_at 10 (omega arith))
      ∙ here_alike _ _ 0 None (moved_ends (slice_index first 10))
  begins (b ∷ bs) digits =
      let (low, high) = digits 0 0 (omega arith) in
      let cell = slice_index first (b - 48) in
      by_row_more table 11 0 b bs (omega arith)
      ∙ ap (λ x. by_cell table x 0 (Some bs)) (first_at (b - 48) (omega (arith, low, high)))
      ∙ ap (λ p. or_here (moved cell) 0 (end_by table p (0 + 1) bs)) (moved_place cell)
      ∙ ap (or_here (moved cell) 0) (same_end bs (0 + 1) (place_of cell))
      ∙ here_alike _ _ 0 _ (moved_ends cell)

  module _ (are : AreRows cells) (lead : LeadInto cells first) where
    -- what is put together leads to rows of those that are moved
    pub leads : (k : ℕ) → IsPlace cells (place_of (slice_index (none ++ (first ++ cells)) k))
    leads k =
        ⊎_elim
        (λ (low : k < 11).
        subst (λ x. IsPlace cells (place_of x))
        (sym (get_or_append_left none (first ++ cells) 0 k low ∙ no_cell_yet k))
        (omega (arith, are.rows.two)))
        (λ (high : 11 ≤ k).
        ⊎_elim
        (λ (low : k < 22).
        let index : k ≡ 11 + (k - 11) = omega (arith, high) in
        subst (λ x. IsPlace cells (place_of x))
        (sym (ap (slice_index (none ++ (first ++ cells))) index
        ∙ get_or-append-add none (first ++ cells) (k - 11) 0
        ∙ get_or_append_left first cells 0 (k - 11) (omega (arith, low, high, eleven))))
        (lead (k - 11) (omega (arith, low, high))))
        (λ (behind : 22 ≤ k).
        let index : k ≡ 11 + (length first + (k - 22)) = omega (arith, behind, eleven) in
        subst (λ x. IsPlace cells (place_of x))
        (sym (ap (slice_index (none ++ (first ++ cells))) index
        ∙ get_or-append-add none (first ++ cells) (length first + (k - 22)) 0
        ∙ get_or-append-add first cells (k - 22) 0))
        (inside (k - 22)))
        (cases_lt k 22))
        (cases_lt k 11)
      where
        inside : (j : ℕ) → IsPlace cells (place_of (slice_index cells j))
        inside j =
            ⊎_elim
            (λ (within : j < length cells). are.rows.inside j within)
            (λ (past : length cells ≤ j). subst (λ x. IsPlace cells (place_of x))
            (sym (get_or_past cells j 0 past)) (omega (arith, are.rows.two)))
            (cases_lt j (length cells))

    -- each cell of the table leads to a row of it
    pub table_rows : HasRows table
    table_rows =
        let all : length table ≡ 11 + (length first + length cells) =
        map_length (none ++ (first ++ cells)) ∙ length-append none (first ++ cells)
        ∙ ap (λ n. 11 + n) (length-append first cells) in record {
          two = omega (arith, all, eleven);
          inside = λ k h.
              let x = slice_index (none ++ (first ++ cells)) k in
              let old = leads k in
              let at : place_of (slice_index table k) ≡ new_place (place_of x) = ap place_of
              (map_at (none ++ (first ++ cells)) k) ∙ moved_place x in
              let most : new_place (place_of x) ≤ place_of x + 22 = new_most (place_of x) in
              omega (arith, at, most, old, all, eleven);
        }
      where
        new_most : (p : ℕ) → new_place p ≤ p + 22
        new_most p =
            ⊎_elim
            (λ (first : p ≡ 0). subst (λ n. n ≤ p + 22)
            (sym (cond-true (p == 0) 0 (p + 22) (eq-eqb p 0 first))) (omega arith))
            (λ other. subst (λ n. n ≤ p + 22) (sym
            (cond-false (p == 0) 0 (p + 22) (ne_eqb p 0 other))) (omega arith))
            (cases_eq p 0)

-- what a slice of all items is written back as
pub written_back : (xs items : List ℕ) (n : ℕ) → n ≡ length items → length xs ≡ length items →
    take n (xs ++ drop (length xs) items) ≡ xs
written_back xs items n all same =
    ap (λ l. take n (xs ++ l)) (nothing_left items (length xs) (omega (arith, same)))
    ∙ ap (take n) (append-nil xs)
    ∙ take_all n xs (omega (arith, all, same))
