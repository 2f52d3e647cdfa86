-- Rows tell the same when more come behind them; rows that stand for two.
use Rattle.std.proofs.Common.{◌≡◌, ⊎_elim, ◌<◌, ◌≤◌, ◌+◌, ◌-◌, ◌++◌, ◌∷◌, [], ◌==◌, ℕ, suc, cond}
use Rattle.std.proofs.Common.{List, length, Option, Some, None, IfSome, slice_index, slice_set}
use Rattle.std.proofs.Common.{refl, sym, ap, ◌∙◌, subst, arith, ne_eqb, drop}
use Rattle.std.proofs.lemmas.Bool.{cases_eq, cond-false}
use Rattle.std.proofs.lemmas.List.{get_or-set_same, get_or-set_other, append-nil, append_assoc}
use Rattle.std.proofs.lemmas.List.{get_or_append_left, get_or-append-add, length-append}
use Rattle.std.proofs.lemmas.List.{length-drop, get_or-drop}
use Rattle.std.specs.Option.{option_or}
use Rattle.regex_hir.specs.Re.{Re}
use Rattle.phone_automaton.specs.Digits.{cell_at, end_by, or_here, place_of, AreDigits, HasRows}
use Rattle.phone_automaton.specs.Rows.{by_cell, AreEither, AreRows, Grows, IsEither, IsEitherCell}
use Rattle.phone_automaton.specs.Rows.{IsPlace}
use Rattle.phone_automaton.specs.Rows.{LeadInto, TellsAccept, TellsBefore}
use Rattle.phone_automaton.proofs.Tabling.{dead_end}

-- ---- more rows come
pub digits_behind : (hay : List ℕ) (p : ℕ) → AreDigits hay → AreDigits (drop p hay)
digits_behind hay p digits k d h =
    let long = length-drop p hay in
    subst (λ b. (48 ≤ b) × (b < 58)) (sym (get_or-drop p hay k d))
    (digits (p + k) d (omega (arith, long, h)))

cell_grows : (cells more : List ℕ) (place column : ℕ) → IsPlace cells place → column < 11 →
    cell_at (cells ++ more) place column ≡ cell_at cells place column
cell_grows cells more place column inside low = get_or_append_left cells more 0 (place + column)
    (omega arith)

module _ (cells more : List ℕ) (has : HasRows cells) where
  pub end_by_grows : (place at : ℕ) (text : List ℕ) → IsPlace cells place → AreDigits text →
      end_by (cells ++ more) place at text ≡ end_by cells place at text
  end_by_grows place at [] inside digits =
      ap (λ c. cond (place == 0) None (or_here c at None))
      (cell_grows cells more place 10 inside (omega arith))
  end_by_grows place at (b ∷ bs) inside digits =
      let (low, high) = digits 0 0 (omega arith) in
      let column : b - 48 < 11 = omega (arith, low, high) in
      let cell = cell_at cells place (b - 48) in
      ap (λ c. cond (place == 0) None (or_here c at
      (end_by (cells ++ more) (place_of c) (at + 1) bs)))
      (cell_grows cells more place (b - 48) inside column)
      ∙ ap (λ e. cond (place == 0) None (or_here cell at e))
      (end_by_grows (place_of cell) (at + 1) bs (has.inside (place + (b - 48)) (omega arith))
      (λ k d h. digits (suc k) d (omega arith)))

  pub by_cell_grows : (cell at : ℕ) (rest : Option (List ℕ)) → IsPlace cells (place_of cell) →
      IfSome rest AreDigits → by_cell (cells ++ more) cell at rest ≡ by_cell cells cell at rest
  by_cell_grows cell at None inside digits = refl
  by_cell_grows cell at (Some rest) inside digits = ap (or_here cell at)
      (end_by_grows (place_of cell) (at + 1) rest inside digits)

  either_cell_kept : (cell a b : ℕ) → IsPlace cells (place_of cell) → IsPlace cells (place_of a) →
      IsPlace cells (place_of b) →
      IsEitherCell cells cell a b → IsEitherCell (cells ++ more) cell a b
  either_cell_kept cell a b in_cell in_a in_b is at rest digits =
      by_cell_grows cell at rest in_cell digits ∙ is at rest digits
      ∙ sym (ap (λ x. option_or x (by_cell (cells ++ more) b at rest))
      (by_cell_grows a at rest in_a digits)
      ∙ ap (option_or (by_cell cells a at rest)) (by_cell_grows b at rest in_b digits))

  tells_kept : (place next : ℕ) (re : Re) → IsPlace cells place → IsPlace cells next →
      TellsBefore cells place next re → TellsBefore (cells ++ more) place next re
  tells_kept place next re in_place in_next tells hay digits k told p within =
      end_by_grows place p (drop p hay) in_place (digits_behind hay p digits)
      ∙ tells hay digits k (λ q h. sym (end_by_grows next q (drop q hay) in_next
      (digits_behind hay q digits)) ∙ told q h) p within

pub IsEitherCell-grows : (old new : List ℕ) (cell a b : ℕ) → HasRows old → Grows old new →
    IsPlace old (place_of cell) → IsPlace old (place_of a) → IsPlace old (place_of b) →
    IsEitherCell old cell a b → IsEitherCell new cell a b
IsEitherCell-grows old new cell a b has (more, grown) in_cell in_a in_b is =
    subst (λ l. IsEitherCell l cell a b) (sym grown)
    (either_cell_kept old more has cell a b in_cell in_a in_b is)

pub TellsBefore-grows : (old new : List ℕ) (place next : ℕ) (re : Re) → HasRows old →
    Grows old new → IsPlace old place → IsPlace old next →
    TellsBefore old place next re → TellsBefore new place next re
TellsBefore-grows old new place next re has (more, grown) in_place in_next tells =
    subst (λ l. TellsBefore l place next re) (sym grown)
    (tells_kept old more has place next re in_place in_next tells)

pub IsPlace-grows : (old new : List ℕ) (place : ℕ) → Grows old new → IsPlace old place →
    IsPlace new place
IsPlace-grows old new place (more, grown) inside =
    let long : length new ≡ length old + length more = ap length grown ∙ length-append old more in
    omega (arith, long, inside)

pub Grows-same : (old : List ℕ) → Grows old old
Grows-same old = ([], sym (append-nil old))

pub Grows-one : (old new row : List ℕ) → new ≡ old ++ row → Grows old new
Grows-one old new row is = (row, is)

pub Grows-twice : (a b c : List ℕ) → Grows a b → Grows b c → Grows a c
Grows-twice a b c (more, is) (others, then) =
    (more ++ others, then ∙ ap (λ l. l ++ others) is ∙ append_assoc a more others)

-- ---- rows that stand for two
-- what a row of some tells of a text is by one of its cells
pub by_row_end : (cells : List ℕ) (place at : ℕ) → 0 < place →
    end_by cells place at [] ≡ by_cell cells (cell_at cells place 10) at None
by_row_end cells place at some = cond-false (place == 0) None _ (ne_eqb place 0 (omega arith))

pub by_row_more : (cells : List ℕ) (place at b : ℕ) (bs : List ℕ) → 0 < place →
    end_by cells place at (b ∷ bs) ≡ by_cell cells (cell_at cells place (b - 48)) at (Some bs)
by_row_more cells place at b bs some = cond-false (place == 0) None _ (ne_eqb place 0 (omega arith))

-- a row whose cells stand for those of two rows stands for the two
pub either_row : (cells : List ℕ) (place a b : ℕ) → 0 < place → 0 < a → 0 < b →
    ((c : ℕ) → c < 11 → IsEitherCell cells (cell_at cells place c) (cell_at cells a c)
    (cell_at cells b c)) → IsEither cells place a b
either_row cells place a b some some_a some_b each at [] digits =
    by_row_end cells place at some
    ∙ each 10 (omega arith) at None tt
    ∙ sym (ap (λ x. option_or x (end_by cells b at [])) (by_row_end cells a at some_a)
    ∙ ap (option_or (by_cell cells (cell_at cells a 10) at None)) (by_row_end cells b at some_b))
either_row cells place a b some some_a some_b each at (d ∷ ds) digits =
    let (low, high) = digits 0 0 (omega arith) in
    by_row_more cells place at d ds some
    ∙ each (d - 48) (omega (arith, low, high)) at (Some ds)
    (λ k e h. digits (suc k) e (omega arith))
    ∙ sym (ap (λ x. option_or x (end_by cells b at (d ∷ ds))) (by_row_more cells a at d ds some_a)
    ∙ ap (option_or (by_cell cells (cell_at cells a (d - 48)) at (Some ds)))
    (by_row_more cells b at d ds some_b))

-- ---- cells that stand for two
-- a cell that leads nowhere
pub cell_zero : (cells : List ℕ) (cell p : ℕ) (rest : Option (List ℕ)) → cell ≡ 0 →
    by_cell cells cell p rest ≡ None
cell_zero cells cell p None is = ap (λ c. or_here c p None) is
cell_zero cells cell p (Some rest) is =
    ap (λ c. or_here c p (end_by cells (place_of c) (p + 1) rest)) is
    ∙ ap (λ o. or_here 0 p o) (dead_end cells (p + 1) rest)

-- the same by other numbers
pub cell_moved : (cells : List ℕ) (x a b x2 a2 b2 : ℕ) → x2 ≡ x → a2 ≡ a → b2 ≡ b →
    IsEitherCell cells x a b → IsEitherCell cells x2 a2 b2
cell_moved cells x a b x2 a2 b2 same same_a same_b is =
    subst (λ y. IsEitherCell cells y a2 b2) (sym same)
    (subst (λ y. IsEitherCell cells x y b2) (sym same_a)
    (subst (λ y. IsEitherCell cells x a y) (sym same_b) is))

pub cell_grown : (old new : List ℕ) (place column : ℕ) → Grows old new → IsPlace old place →
    column < 11 → cell_at new place column ≡ cell_at old place column
cell_grown old new place column (more, grown) inside low = ap (λ l. cell_at l place column) grown
    ∙ cell_grows old more place column inside low

-- one more cell of a row that stands for two
pub more_joined : (old new row a b : List ℕ) (column cell : ℕ) → HasRows old → Grows old new →
    LeadInto old a → LeadInto old b → length row ≡ 11 → column < 11 → LeadInto old row →
    ((c : ℕ) → c < column → IsEitherCell old (slice_index row c) (slice_index a c)
    (slice_index b c)) →
    IsEitherCell new cell (slice_index a column) (slice_index b column) →
    (c : ℕ) → c < column + 1 →
    IsEitherCell new (slice_index (slice_set row column cell) c) (slice_index a c) (slice_index b c)
more_joined old new row a b column cell has grows lead_a lead_b long low lead before here c h =
    let c_low : c < 11 = omega (arith, h, low) in
    ⊎_elim
    (λ (same : c ≡ column).
    cell_moved new cell (slice_index a column) (slice_index b column) _ _ _
    (ap (λ j. slice_index (slice_set row column cell) j) same
    ∙ get_or-set_same row column cell 0 (omega (arith, long, low)))
    (ap (slice_index a) same) (ap (slice_index b) same) here)
    (λ other.
    cell_moved new (slice_index row c) (slice_index a c) (slice_index b c) _ _ _
    (get_or-set_other row column c cell 0 other) refl refl
    (IsEitherCell-grows old new _ _ _ has grows (lead c c_low) (lead_a c c_low) (lead_b c c_low)
    (before c (omega (arith, h, other)))))
    (cases_eq c column)

pub LeadInto-grows : (old new row : List ℕ) → Grows old new → LeadInto old row → LeadInto new row
LeadInto-grows old new row grows lead c low = IsPlace-grows old new _ grows (lead c low)

pub more_leads : (old new row : List ℕ) (column cell : ℕ) → Grows old new → length row ≡ 11 →
    column < 11 → LeadInto old row → IsPlace new (place_of cell) →
    LeadInto new (slice_set row column cell)
more_leads old new row column cell grows long low lead here c c_low =
    ⊎_elim
    (λ (same : c ≡ column).
    subst (λ x. IsPlace new (place_of x))
    (sym (ap (λ j. slice_index (slice_set row column cell) j) same
    ∙ get_or-set_same row column cell 0 (omega (arith, long, low)))) here)
    (λ other. subst (λ x. IsPlace new (place_of x))
    (sym (get_or-set_other row column c cell 0 other))
    (IsPlace-grows old new _ grows (lead c c_low)))
    (cases_eq c column)

-- a row of such cells stands for the two
pub pushed_either : (first cells row new of_a of_b : List ℕ) (a b place : ℕ) → AreRows first →
    new ≡ cells ++ row → AreRows cells → Grows first cells → place ≡ length cells →
    (a ≡ 0 → ⊥) → (b ≡ 0 → ⊥) → IsPlace first a → IsPlace first b →
    ((c : ℕ) → c < 11 → slice_index of_a c ≡ cell_at first a c) →
    ((c : ℕ) → c < 11 → slice_index of_b c ≡ cell_at first b c) →
    LeadInto first of_a → LeadInto first of_b → LeadInto cells row → AreEither cells row of_a of_b →
    IsEither new place a b
pushed_either first cells row new of_a of_b a b place begun grown are grows at some_a some_b in_a
    in_b is_a is_b lead_a lead_b lead each =
    let has = are.rows in
    let all = Grows-twice first cells new grows (row, grown) in
    either_row new place a b (omega (arith, at, has.two)) (omega (arith, some_a))
    (omega (arith, some_b))
    (λ c low.
    cell_moved new (slice_index row c) (slice_index of_a c) (slice_index of_b c) _ _ _
    (ap (λ l. slice_index l (place + c)) grown ∙ ap (λ j. slice_index (cells ++ row) (j + c)) at
    ∙ get_or-append-add cells row c 0)
    (cell_grown first new a c all in_a low ∙ sym (is_a c low))
    (cell_grown first new b c all in_b low ∙ sym (is_b c low))
    (IsEitherCell-grows cells new _ _ _ has (row, grown) (lead c low)
    (IsPlace-grows first cells _ grows (lead_a c low))
    (IsPlace-grows first cells _ grows (lead_b c low)) (each c low)))

pub IfSome-both : {A : Type 0} (P Q R : A → Type 0) (o : Option A) → ((x : A) → P x → Q x → R x) →
    IfSome o P → IfSome o Q → IfSome o R
IfSome-both P Q R None f p q = tt
IfSome-both P Q R (Some x) f p q = f x p q

pub TellsAccept-grows : (old new : List ℕ) (place : ℕ) → HasRows old → Grows old new →
    IsPlace old place → TellsAccept old place → TellsAccept new place
TellsAccept-grows old new place has (more, grown) inside tells =
    subst (λ l. TellsAccept l place) (sym grown)
    (λ hay digits p within. end_by_grows old more has place p (drop p hay) inside
    (digits_behind hay p digits) ∙ tells hay digits p within)
