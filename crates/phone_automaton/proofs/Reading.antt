-- Rows of a tree tell of it.
use Rattle.std.proofs.Common.{◌≡◌, ◌⊎◌, ◌||◌, inl, inr, take, ⊎_elim, ◌<◌, ◌≤◌, ◌+◌, ◌*◌, ◌-◌, ◌++◌}
use Rattle.std.proofs.Common.{◌∷◌, [], ◌==◌, ◌&&◌, nat_eq, ℕ, zero, suc, Bool, true, false, cond}
use Rattle.std.proofs.Common.{not, is_some, List, length, Option, Some, None, slice_get}
use Rattle.std.proofs.Common.{slice_index, option_map, option_and_then, refl, sym, ap, ap₂, ◌∙◌}
use Rattle.std.proofs.Common.{subst, arith, eq-eqb, ne_eqb, get_or, drop, add-one, map, slice_set}
use Rattle.std.proofs.Common.{drop-cons}
use Rattle.std.proofs.lemmas.Bool.{cases_eq, cases_lt, cond-true, cond-false}
use Rattle.std.proofs.lemmas.Grind.{get_or-set_at}
use Rattle.std.proofs.lemmas.List.{get_or-set_other, get_or-append-add, drop_more}
use Rattle.std.proofs.lemmas.List.{get_or-replicate, get_or_append_left, get_or_past}
use Rattle.std.proofs.Math.ListN.{replicate}
use Rattle.std.proofs.lemmas.Option.{slice_get-get_or, slice_get_past}
use Rattle.std.proofs.lemmas.Str.{len_utf8_ascii}
use Rattle.std.specs.Char.{len_utf8}
use Rattle.std.specs.List.{starts_with}
use Rattle.std.specs.Option.{option_or}
use Rattle.regex_class.specs.Ranges.{Range, in_ranges, range_at}
use Rattle.regex_class.proofs.RangesLemmas.{in_range_tells, in_ranges-more}
use Rattle.regex_hir.proofs.OptionLemmas.{option_or-None}
use Rattle.regex_hir.proofs.TextLemmas.{char_at_ascii, char_at_past}
use Rattle.regex_hir.specs.Looks.{holds, holds_between}
use Rattle.regex_hir.specs.Meaning.{meaning, optional, copies, up_to, repeat, cat_all, alt_all}
use Rattle.regex_hir.specs.Re.{Re, Rest, Trace, attempt, write, empty, literal, byte_in}
use Rattle.regex_hir.specs.Re.{char_in, look, cat, alt, group}
use Rattle.regex_hir.specs.Text.{char_at, has_bytes_at, is_some_and}
use Rattle.regex_hir.specs.declared.hir.Hir.{Hir}
use Rattle.regex_hir.specs.declared.look.Look.TheVariants as looks
use Rattle.phone_automaton.specs.Digits.{cell_at, end_by, ends_here, place_of, AreDigits, HasRows}
use Rattle.phone_automaton.specs.Rows.{by_cell, by_row, AreChoice, AreEither, AreRows, CellsTell}
use Rattle.phone_automaton.specs.Rows.{GivesBefore, Grows, IsPlace, IsStep, none}
use Rattle.phone_automaton.specs.Rows.{LeadInto, RowTells, TellsAccept, TellsBefore}
use Rattle.phone_automaton.proofs.Joining.{by_cell_grows, by_row_end, by_row_more, cell_zero}
use Rattle.phone_automaton.proofs.Joining.{end_by_grows, LeadInto-grows}
use Rattle.phone_automaton.proofs.Joining.{digits_behind, Grows-twice, IsPlace-grows}
use Rattle.phone_automaton.proofs.Joining.{TellsBefore-grows}
use Rattle.phone_automaton.proofs.Tabling.{dead_end}

-- where a match ends, if there is one
abbrev end_of : Option Trace → Option ℕ
end_of o = option_map (λ (t : Trace). t.end) o

end_or : (x y : Option Trace) → end_of (option_or x y) ≡ option_or (end_of x) (end_of y)
end_or None y = refl
end_or (Some t) y = refl

end_write : (slot i : ℕ) (o : Option Trace) → end_of (write slot i o) ≡ end_of o
end_write slot i None = refl
end_write slot i (Some t) = refl

-- ---- rows and their cells
by_row_grows : (cells more row text : List ℕ) (at : ℕ) → HasRows cells → LeadInto cells row →
    AreDigits text → by_row (cells ++ more) row at text ≡ by_row cells row at text
by_row_grows cells more row [] at has lead digits = refl
by_row_grows cells more row (b ∷ bs) at has lead digits =
    let (low, high) = digits 0 0 (omega arith) in
    by_cell_grows cells more has (slice_index row (b - 48)) at (Some bs)
    (lead (b - 48) (omega (arith, low, high))) (λ k d h. digits (suc k) d (omega (arith, h)))

gives_kept : (cells more row : List ℕ) (next : ℕ) (re : Re) → HasRows cells → IsPlace cells next →
    GivesBefore cells row next re → GivesBefore (cells ++ more) row next re
gives_kept cells more row next re has inside gives = record {
  lead = LeadInto-grows cells (cells ++ more) row (more, refl) gives.lead;
  tell = λ hay digits k told p within.
      by_row_grows cells more row (drop p hay) p has gives.lead (digits_behind hay p digits)
      ∙ gives.tell hay digits k
      (λ q h. sym (end_by_grows cells more has next q (drop q hay) inside
      (digits_behind hay q digits)) ∙ told q h) p within;
}

pub GivesBefore-grows : (old new row : List ℕ) (next : ℕ) (re : Re) → HasRows old → Grows old new →
    IsPlace old next → GivesBefore old row next re → GivesBefore new row next re
GivesBefore-grows old new row next re has (more, grown) inside gives =
    subst (λ l. GivesBefore l row next re) (sym grown)
    (gives_kept old more row next re has inside gives)

-- what a row tells by its place it tells by its cells
by_place : (cells row text : List ℕ) (place at : ℕ) → 0 < place →
    ((c : ℕ) → c < 11 → cell_at cells place c ≡ slice_index row c) →
    AreDigits text → end_by cells place at text ≡ by_row cells row at text
by_place cells row [] place at some same digits =
    by_row_end cells place at some ∙ ap (λ x. by_cell cells x at None) (same 10 (omega arith))
by_place cells row (b ∷ bs) place at some same digits =
    let (low, high) = digits 0 0 (omega arith) in
    by_row_more cells place at b bs some ∙ ap (λ x. by_cell cells x at (Some bs))
    (same (b - 48) (omega (arith, low, high)))

nowhere_tells : (cells row text : List ℕ) (at : ℕ) → ((c : ℕ) → c < 11 → slice_index row c ≡ 0) →
    AreDigits text → by_row cells row at text ≡ None
nowhere_tells cells row [] at none digits = cell_zero cells _ at None (none 10 (omega arith))
nowhere_tells cells row (b ∷ bs) at none digits =
    let (low, high) = digits 0 0 (omega arith) in
    cell_zero cells _ at (Some bs) (none (b - 48) (omega (arith, low, high)))

read_row : (cells row text : List ℕ) (place at : ℕ) → AreRows cells →
    ((c : ℕ) → c < 11 → slice_index row c ≡ cell_at cells place c) →
    AreDigits text → by_row cells row at text ≡ end_by cells place at text
read_row cells row text place at are same digits =
    ⊎_elim
    (λ (first : place ≡ 0).
    nowhere_tells cells row text at
    (λ c low. let index : place + c ≡ c = omega (arith, first) in same c low
    ∙ ap (slice_index cells) index ∙ are.nowhere c low) digits
    ∙ sym (ap (λ n. end_by cells n at text) first ∙ dead_end cells at text))
    (λ other. sym (by_place cells row text place at (omega (arith, other))
    (λ c low. sym (same c low)) digits))
    (cases_eq place 0)

pub gives_row : (cells row : List ℕ) (place next : ℕ) (re : Re) → AreRows cells →
    ((c : ℕ) → c < 11 → slice_index row c ≡ cell_at cells place c) →
    LeadInto cells row → TellsBefore cells place next re → GivesBefore cells row next re
gives_row cells row place next re are same lead tells = record {
  lead = lead;
  tell = λ hay digits k told p within. read_row cells row (drop p hay) place p are same
      (digits_behind hay p digits) ∙ tells hay digits k told p within;
}

-- a row that comes behind the others tells what its cells tell
pub placed : (old row new : List ℕ) (place next : ℕ) (re : Re) → new ≡ old ++ row →
    place ≡ length old → AreRows old → IsPlace old next →
    GivesBefore old row next re → TellsBefore new place next re
placed old row new place next re grown at are inside gives hay digits k told p within =
    by_place new row (drop p hay) place p (omega (arith, at, are.rows.two))
    (λ c low. ap (λ l. slice_index l (place + c)) grown
    ∙ ap (λ j. slice_index (old ++ row) (j + c)) at ∙ get_or-append-add old row c 0)
    (digits_behind hay p digits)
    ∙ (GivesBefore-grows old new row next re are.rows (row, grown) inside gives).tell hay digits k
    told p within

-- ---- how trees are put together
pub tells_empty : (cells : List ℕ) (next : ℕ) → TellsBefore cells next next empty
unfolding attempt
tells_empty cells next hay digits k told p within = told p within

pub gives_empty : (cells row : List ℕ) (next : ℕ) → AreRows cells →
    ((c : ℕ) → c < 11 → slice_index row c ≡ cell_at cells next c) →
    LeadInto cells row → GivesBefore cells row next empty
gives_empty cells row next are same lead = gives_row cells row next next empty are same lead
    (tells_empty cells next)

gives_cat : (cells row : List ℕ) (middle next : ℕ) (a b : Re) → GivesBefore cells row middle a →
    TellsBefore cells middle next b →
    GivesBefore cells row next (cat a b)
unfolding attempt
gives_cat cells row middle next a b first second = record {
  lead = first.lead;
  tell = λ hay digits k told p within. first.tell hay digits (attempt hay b k)
      (second hay digits k told) p within;
}

-- rows whose cells stand for those of two
either_text : (cells row a b text : List ℕ) (at : ℕ) → AreEither cells row a b → AreDigits text →
    by_row cells row at text ≡ option_or (by_row cells a at text) (by_row cells b at text)
either_text cells row a b [] at either digits = either 10 (omega arith) at None tt
either_text cells row a b (d ∷ ds) at either digits =
    let (low, high) = digits 0 0 (omega arith) in
    either (d - 48) (omega (arith, low, high)) at (Some ds)
    (λ k e h. digits (suc k) e (omega (arith, h)))

gives_alt : (cells row one two : List ℕ) (next : ℕ) (a b : Re) → AreEither cells row one two →
    LeadInto cells row →
    GivesBefore cells one next a → GivesBefore cells two next b →
    GivesBefore cells row next (alt a b)
unfolding attempt
gives_alt cells row one two next a b either lead first second = record {
  lead = lead;
  tell = λ hay digits k told p within.
      either_text cells row one two (drop p hay) p either (digits_behind hay p digits)
      ∙ ap₂ option_or (first.tell hay digits k told p within)
      (second.tell hay digits k told p within)
      ∙ sym (end_or (attempt hay a k p) (attempt hay b k p));
}

pub gives_group : (cells row : List ℕ) (next n : ℕ) (a : Re) → GivesBefore cells row next a →
    GivesBefore cells row next (group n a)
unfolding attempt
gives_group cells row next n a gives = record {
  lead = gives.lead;
  tell = λ hay digits k told p within.
      gives.tell hay digits (λ j. write (2 * n + 1) j (k j))
      (λ q h. told q h ∙ sym (end_write (2 * n + 1) q (k q))) p within
      ∙ sym (end_write (2 * n) p (attempt hay a (λ j. write (2 * n + 1) j (k j)) p));
}

gives_optional : (cells row more leave : List ℕ) (next : ℕ) (greedy : Bool) (a : Re) →
    AreChoice cells row more leave greedy → LeadInto cells row →
    GivesBefore cells more next a → GivesBefore cells leave next empty →
    GivesBefore cells row next (optional greedy a)
gives_optional cells row more leave next true a choice lead first second = gives_alt cells row more
    leave next a empty choice lead first second
gives_optional cells row more leave next false a choice lead first second = gives_alt cells row
    leave more next empty a choice lead second first

split_copies : (hay : List ℕ) (a b : Re) (k : Rest) (n : ℕ) →
    attempt hay (copies n a empty) (attempt hay b k) ≡ attempt hay (copies n a b) k
unfolding attempt
split_copies hay a b k zero = refl
split_copies hay a b k (suc n) = ap (attempt hay a) (split_copies hay a b k n)

gives_copies : (cells row : List ℕ) (middle next n : ℕ) (a b : Re) →
    GivesBefore cells row middle (copies n a empty) → TellsBefore cells middle next b →
    GivesBefore cells row next (copies n a b)
gives_copies cells row middle next n a b first second = record {
  lead = first.lead;
  tell = λ hay digits k told.
      subst (λ (r : Rest). CellsTell cells row hay r) (split_copies hay a b k n)
      (first.tell hay digits (attempt hay b k) (second hay digits k told));
}

-- ---- rows of steps
-- the rest of a text, from a place on
pub nothing_left : {A : Type 0} (l : List A) (n : ℕ) → length l ≤ n → drop n l ≡ []
nothing_left [] zero h = refl
nothing_left [] (suc n) h = refl
nothing_left (b ∷ bs) zero h = absurd (omega (arith, h))
nothing_left (b ∷ bs) (suc n) h = nothing_left bs n (omega (arith, h))

-- a row tells of a text by its cells for the digits and for the end
by_steps : (cells row hay : List ℕ) (k : Rest) → AreDigits hay →
    ((p b : ℕ) → p < length hay → slice_get hay p ≡ Some b → 48 ≤ b → b < 58 →
    by_cell cells (slice_index row (b - 48)) p (Some (drop (p + 1) hay)) ≡ end_of (k p)) →
    ((p : ℕ) → p ≡ length hay → by_cell cells (slice_index row 10) p None ≡ end_of (k p)) →
    CellsTell cells row hay k
by_steps cells row hay k digits more none p within =
    ⊎_elim
    (λ (inside : p < length hay).
    let (low, high) = digits p 0 inside in
    ap (by_row cells row p) (drop_more hay p 0 inside)
    ∙ more p (get_or hay p 0) inside (slice_get-get_or hay p 0 inside) low high)
    (λ (past : length hay ≤ p). ap (by_row cells row p) (nothing_left hay p past)
    ∙ none p (omega (arith, past, within)))
    (cases_lt p (length hay))

-- a cell that leads on
cell_on : (cells : List ℕ) (cell next p : ℕ) (rest : List ℕ) → place_of cell ≡ next →
    ends_here cell ≡ false → by_cell cells cell p (Some rest) ≡ end_by cells next (p + 1) rest
cell_on cells cell next p rest to not_here =
    ap (λ e. option_or (end_by cells (place_of cell) (p + 1) rest) (cond e (Some p) None)) not_here
    ∙ option_or-None _
    ∙ ap (λ n. end_by cells n (p + 1) rest) to

-- one byte that passes, and then what follows
abbrev pub if_passes : (ℕ → Bool) → List ℕ → Rest → Rest
if_passes test hay k p = cond (is_some_and (slice_get hay p) test) (k (p + 1)) None

-- a row of a step, whatever follows it
pub record GivesStep (cells row : List ℕ) (next : ℕ) (test : ℕ → Bool) : Type 0 where
  pub lead : LeadInto cells row
  pub tell : (hay : List ℕ) → AreDigits hay → (k : Rest) → RowTells cells next hay k →
      CellsTell cells row hay (if_passes test hay k)

pub gives_step : (cells row : List ℕ) (next cell : ℕ) (test : ℕ → Bool) → IsPlace cells next →
    place_of cell ≡ next → ends_here cell ≡ false →
    IsStep row cell test → GivesStep cells row next test
gives_step cells row next cell test inside to not_here step = record {
  lead = λ c h.
      ⊎_elim
      (λ (digit : c < 10). subst (λ x. IsPlace cells (place_of x)) (sym (step.0 c digit))
      (leads (test (48 + c))))
      (λ (end : 10 ≤ c).
      let last : c ≡ 10 = omega (arith, end, h) in
      subst (λ x. IsPlace cells (place_of x)) (sym (ap (slice_index row) last ∙ step.1))
      (omega (arith, inside)))
      (cases_lt c 10);
  tell = λ hay digits k told.
      by_steps cells row hay (if_passes test hay k) digits
      (λ p b within is low high.
      passes hay k told p b within (test b) refl
      (step.0 (b - 48) (omega (arith, low, high)) ∙ ap (λ x. cond (test x) cell 0) (back b low))
      ∙ sym (ap (λ o. end_of (cond (is_some_and o test) (k (p + 1)) None)) is))
      (λ p all.
      cell_zero cells _ p None step.1
      ∙ sym (ap (λ o. end_of (cond (is_some_and o test) (k (p + 1)) None))
      (slice_get_past hay p (omega (arith, all)))));
}
  where
    leads : (t : Bool) → IsPlace cells (place_of (cond t cell 0))
    leads true = subst (λ n. IsPlace cells n) (sym to) inside
    leads false = omega (arith, inside)

    back : (b : ℕ) → 48 ≤ b → 48 + (b - 48) ≡ b
    back b low = omega (arith, low)

    passes : (hay : List ℕ) (k : Rest) → RowTells cells next hay k → (p b : ℕ) → p < length hay →
        (t : Bool) → test b ≡ t →
        slice_index row (b - 48) ≡ cond (test b) cell 0 →
        by_cell cells (slice_index row (b - 48)) p (Some (drop (p + 1) hay)) ≡ end_of
        (cond (test b) (k (p + 1)) None)
    passes hay k told p b within true is cells_is =
        ap (λ c. by_cell cells c p (Some (drop (p + 1) hay)))
        (cells_is ∙ ap (λ t. cond t cell 0) is)
        ∙ cell_on cells cell next p (drop (p + 1) hay) to not_here
        ∙ told (p + 1) (omega (arith, within))
        ∙ sym (ap (λ t. end_of (cond t (k (p + 1)) None)) is)
    passes hay k told p b within false is cells_is =
        cell_zero cells _ p (Some (drop (p + 1) hay)) (cells_is ∙ ap (λ t. cond t cell 0) is)
        ∙ sym (ap (λ t. end_of (cond t (k (p + 1)) None)) is)

-- the same of what goes on alike
told_alike : (cells row hay : List ℕ) (k r : Rest) → ((p : ℕ) → p ≤ length hay → r p ≡ k p) →
    CellsTell cells row hay k → CellsTell cells row hay r
told_alike cells row hay k r same told p within = told p within ∙ sym (ap end_of (same p within))

pub gives_byte_in : (cells row : List ℕ) (next : ℕ) (rs : List Range) →
    GivesStep cells row next (in_ranges rs) → GivesBefore cells row next (byte_in rs)
unfolding attempt
gives_byte_in cells row next rs step = record
    { lead = step.lead; tell = λ hay digits k told p within. step.tell hay digits k told p within }

abbrev after_char : List Range → Rest → ℕ → Option ℕ → Option Trace
after_char rs k p o = option_and_then (λ c. cond (in_ranges rs c) (k (p + len_utf8 c)) None) o

one_char : (hay : List ℕ) (rs : List Range) (k : Rest) (p : ℕ) → AreDigits hay → p ≤ length hay →
    after_char rs k p (char_at hay p) ≡ if_passes (in_ranges rs) hay k p
one_char hay rs k p digits within =
    ⊎_elim
    (λ (inside : p < length hay).
    let b = get_or hay p 0 in
    let (low, high) = digits p 0 inside in
    let small : b < 128 = omega (arith, high) in
    let is = slice_get-get_or hay p 0 inside in
    ap (after_char rs k p) (char_at_ascii hay p b is small)
    ∙ ap (λ n. cond (in_ranges rs b) (k (p + n)) None) (len_utf8_ascii b small)
    ∙ sym (ap (λ o. cond (is_some_and o (in_ranges rs)) (k (p + 1)) None) is))
    (λ (past : length hay ≤ p).
    ap (after_char rs k p) (char_at_past hay p past)
    ∙ sym (ap (λ o. cond (is_some_and o (in_ranges rs)) (k (p + 1)) None)
    (slice_get_past hay p past)))
    (cases_lt p (length hay))

pub gives_char_in : (cells row : List ℕ) (next : ℕ) (rs : List Range) →
    GivesStep cells row next (in_ranges rs) → GivesBefore cells row next (char_in rs)
unfolding attempt
gives_char_in cells row next rs step = record {
  lead = step.lead;
  tell = λ hay digits k told.
      told_alike cells row hay (if_passes (in_ranges rs) hay k) (attempt hay (char_in rs) k)
      (λ p within. one_char hay rs k p digits within) (step.tell hay digits k told);
}

-- ---- literals
nothing_read : (hay : List ℕ) (k : Rest) (p : ℕ) → attempt hay (literal []) k p ≡ k p
unfolding attempt has_bytes_at
nothing_read hay k p = let same : p + 0 ≡ p = omega arith in ap k same

tells_nothing : (cells : List ℕ) (next : ℕ) → TellsBefore cells next next (literal [])
tells_nothing cells next hay digits k told p within = told p within
    ∙ sym (ap end_of (nothing_read hay k p))

pub gives_nothing : (cells row : List ℕ) (next : ℕ) → AreRows cells →
    ((c : ℕ) → c < 11 → slice_index row c ≡ cell_at cells next c) →
    LeadInto cells row → GivesBefore cells row next (literal [])
gives_nothing cells row next are same lead = gives_row cells row next next (literal []) are same
    lead (tells_nothing cells next)

two_tests : (s t : Bool) (o : Option Trace) → cond (s && t) o None ≡ cond s (cond t o None) None
two_tests true t o = refl
two_tests false t o = refl

one_byte : (hay : List ℕ) (b : ℕ) (bs : List ℕ) (k : Rest) (p : ℕ) →
    attempt hay (literal (b ∷ bs)) k p ≡ if_passes (λ x. b == x) hay (attempt hay (literal bs) k) p
unfolding attempt has_bytes_at
one_byte hay b bs k p =
    ⊎_elim
    (λ (inside : p < length hay).
    let next : p + length (b ∷ bs) ≡ p + 1 + length bs = omega arith in
    let x = get_or hay p 0 in
    let rest = drop (p + 1) hay in
    ap (λ l. cond (starts_with nat_eq l (b ∷ bs)) (k (p + length (b ∷ bs))) None)
    (drop_more hay p 0 inside)
    ∙ ap (λ n. cond (starts_with nat_eq (x ∷ rest) (b ∷ bs)) (k n) None) next
    ∙ two_tests (b == x) (starts_with nat_eq rest bs) (k (p + 1 + length bs))
    ∙ sym (ap (λ o. cond (is_some_and o (λ y. b == y))
    (cond (starts_with nat_eq rest bs) (k (p + 1 + length bs)) None) None)
    (slice_get-get_or hay p 0 inside)))
    (λ (past : length hay ≤ p).
    ap (λ l. cond (starts_with nat_eq l (b ∷ bs)) (k (p + length (b ∷ bs))) None)
    (nothing_left hay p past)
    ∙ sym (ap (λ o. cond (is_some_and o (λ y. b == y)) (attempt hay (literal bs) k (p + 1)) None)
    (slice_get_past hay p past)))
    (cases_lt p (length hay))

gives_literal : (cells row : List ℕ) (middle next b : ℕ) (bs : List ℕ) →
    GivesStep cells row middle (λ x. b == x) → TellsBefore cells middle next (literal bs) →
    GivesBefore cells row next (literal (b ∷ bs))
gives_literal cells row middle next b bs step tells = record {
  lead = step.lead;
  tell = λ hay digits k told.
      told_alike cells row hay (if_passes (λ x. b == x) hay (attempt hay (literal bs) k))
      (attempt hay (literal (b ∷ bs)) k)
      (λ p within. one_byte hay b bs k p) (step.tell hay digits (attempt hay (literal bs) k)
      (tells hay digits k told));
}

-- the last byte of a literal
pub gives_last_byte : (cells row bytes : List ℕ) (next cell last : ℕ) → IsPlace cells next →
    place_of cell ≡ next → ends_here cell ≡ false → last + 1 ≡ length bytes →
    IsStep row cell (λ x. slice_index bytes last == x) →
    GivesBefore cells row next (literal (drop last bytes))
gives_last_byte cells row bytes next cell last inside to not_here is step =
    let whole : drop last bytes ≡ slice_index bytes last ∷ [] =
    drop-cons bytes last 0 (omega (arith, is))
    ∙ ap (λ l. slice_index bytes last ∷ l) (nothing_left bytes (suc last) (omega (arith, is)))
    in
    subst (λ bs. GivesBefore cells row next (literal bs)) (sym whole)
    (gives_literal cells row next next (slice_index bytes last) []
    (gives_step cells row next cell (λ x. slice_index bytes last == x) inside to not_here step)
    (tells_nothing cells next))

-- a byte before others
pub gives_byte : (old row new follows bytes : List ℕ) (place next cell i : ℕ) → new ≡ old ++ row →
    place ≡ length old → AreRows old → IsPlace old next → IsPlace new place →
    place_of cell ≡ place → ends_here cell ≡ false → 0 < i → i ≤ length bytes →
    IsStep follows cell (λ x. slice_index bytes (i - 1) == x) →
    GivesBefore old row next (literal (drop i bytes)) →
    GivesBefore new follows next (literal (drop (i - 1) bytes))
gives_byte old row new follows bytes place next cell i grown at are in_next in_place to not_here
    some inside step gives =
    let back : suc (i - 1) ≡ i = omega arith in
    let whole : drop (i - 1) bytes ≡ slice_index bytes (i - 1) ∷ drop i bytes =
    drop-cons bytes (i - 1) 0 (omega arith)
    ∙ ap (λ n. slice_index bytes (i - 1) ∷ drop n bytes) back in
    subst (λ bs. GivesBefore new follows next (literal bs)) (sym whole)
    (gives_literal new follows place next (slice_index bytes (i - 1)) (drop i bytes)
    (gives_step new follows place cell (λ x. slice_index bytes (i - 1) == x) in_place to not_here
    step)
    (placed old row new place next (literal (drop i bytes)) grown at are in_next gives))

-- ---- the end of the text
-- a row with a cell for the end of the text alone
end_alone : (x c : ℕ) → c < 10 → slice_index (0 ∷ 0 ∷ 0 ∷ 0 ∷ 0 ∷ 0 ∷ 0 ∷ 0 ∷ 0 ∷ 0 ∷ x ∷ []) c ≡ 0
end_alone x c low =
    get_or_append_left (replicate 10 0) (x ∷ []) 0 c low ∙ get_or-replicate 10 c 0 0 low

pub gives_end : (cells : List ℕ) (x next : ℕ) → IsPlace cells next → (next ≡ 0 → ⊥) →
    IsPlace cells (place_of x) → x ≡ cell_at cells next 10 →
    GivesBefore cells (0 ∷ 0 ∷ 0 ∷ 0 ∷ 0 ∷ 0 ∷ 0 ∷ 0 ∷ 0 ∷ 0 ∷ x ∷ []) next (look looks.End)
unfolding attempt holds holds_between
gives_end cells x next inside some leads is = record {
  lead = λ c h.
      ⊎_elim
      (λ (digit : c < 10). subst (λ y. IsPlace cells (place_of y)) (sym (end_alone x c digit))
      (omega (arith, inside)))
      (λ (end : 10 ≤ c).
      let last : c ≡ 10 = omega (arith, end, h) in
      subst (λ y. IsPlace cells (place_of y))
      (sym (ap (slice_index (0 ∷ 0 ∷ 0 ∷ 0 ∷ 0 ∷ 0 ∷ 0 ∷ 0 ∷ 0 ∷ 0 ∷ x ∷ [])) last)) leads)
      (cases_lt c 10);
  tell = λ hay digits k told.
      by_steps cells (0 ∷ 0 ∷ 0 ∷ 0 ∷ 0 ∷ 0 ∷ 0 ∷ 0 ∷ 0 ∷ 0 ∷ x ∷ []) hay
      (attempt hay (look looks.End) k) digits
      (λ p b inside_hay found low high.
      cell_zero cells _ p (Some (drop (p + 1) hay))
      (end_alone x (b - 48) (omega (arith, low, high)))
      ∙ sym (ap (λ o. end_of (cond (not (is_some o)) (k p) None)) found))
      (λ p all.
      ap (λ c. by_cell cells c p None) is
      ∙ sym (by_row_end cells next p (omega (arith, some)))
      ∙ sym (ap (end_by cells next p) (nothing_left hay p (omega (arith, all))))
      ∙ told p (omega (arith, all))
      ∙ sym (ap (λ o. end_of (cond (not (is_some o)) (k p) None))
      (slice_get_past hay p (omega (arith, all)))));
}

-- ---- where a match ends
abbrev ended : List ℕ
ended = 1 ∷ 1 ∷ 1 ∷ 1 ∷ 1 ∷ 1 ∷ 1 ∷ 1 ∷ 1 ∷ 1 ∷ 1 ∷ []

abbrev pub first_rows : List ℕ
first_rows = none ++ ended

ones : (c : ℕ) → c < 11 → slice_index ended c ≡ 1
ones c low = get_or-replicate 11 c 1 0 low

ended_tells : (cells text : List ℕ) (at : ℕ) → AreDigits text → by_row cells ended at text ≡ Some at
ended_tells cells [] at digits = refl
ended_tells cells (b ∷ bs) at digits =
    let (low, high) = digits 0 0 (omega arith) in
    ap (λ x. by_cell cells x at (Some bs)) (ones (b - 48) (omega (arith, low, high)))
    ∙ ap (λ o. option_or o (Some at)) (dead_end cells (at + 1) bs)

pub accepts : (cells : List ℕ) → cells ≡ first_rows → TellsAccept cells 11
accepts cells is hay digits p within =
    by_place cells ended (drop p hay) 11 p (omega arith)
    (λ c low. ap (λ l. cell_at l 11 c) is ∙ get_or-append-add none ended c 0)
    (digits_behind hay p digits)
    ∙ ended_tells cells (drop p hay) p (digits_behind hay p digits)

-- ---- the cells of a step
zero_at : (c : ℕ) → slice_index none c ≡ 0
zero_at c =
    ⊎_elim (λ (low : c < 11). get_or-replicate 11 c 0 0 low)
    (λ (high : 11 ≤ c). get_or_past none c 0 high) (cases_lt c 11)

pub one_digit : (b cell : ℕ) → 48 ≤ b → b < 58 →
    IsStep (slice_set none (b - 48) cell) cell
    (λ x. b == x)
one_digit b cell low high = (
  λ c h.
      ⊎_elim
      (λ (same : b ≡ 48 + c).
      get_or-set_at none (b - 48) c cell 0 (omega (arith, same)) (omega (arith, high, low))
      ∙ sym (cond-true (b == 48 + c) cell 0 (eq-eqb b (48 + c) same)))
      (λ other.
      get_or-set_other none (b - 48) c cell 0 (λ e. other (omega (arith, e, low)))
      ∙ zero_at c
      ∙ sym (cond-false (b == 48 + c) cell 0 (ne_eqb b (48 + c) other)))
      (cases_eq b (48 + c)),
  get_or-set_other none (b - 48) 10 cell 0 (λ e. absurd (omega (arith, e, low, high)))
      ∙ zero_at 10,
)

-- a step over a class of one range more
pub one_range_more : (rs : List Range) (i c first last cell : ℕ) (old new : List ℕ) →
    i < length rs → c < 10 → first ≡ (range_at rs i).0 → last ≡ (range_at rs i).1 →
    slice_index old c ≡ cond (in_ranges (take i rs) (48 + c)) cell 0 →
    (first ≤ 48 + c → 48 + c ≤ last → slice_index new c ≡ cell) →
    (48 + c < first ⊎ last < 48 + c → slice_index new c ≡ slice_index old c) →
    slice_index new c ≡ cond (in_ranges (take (i + 1) rs) (48 + c)) cell 0
one_range_more rs i c first last cell old new more low is_first is_last before inside outside =
    ⊎_elim
    (λ within.
    inside (omega (arith, is_first, within.1)) (omega (arith, is_last, within.2))
    ∙ sym (ap (λ t. cond t cell 0) (in_ranges-more rs i (48 + c) more
    ∙ ap (λ t. in_ranges (take i rs) (48 + c) || t) within.0
    ∙ or_true (in_ranges (take i rs) (48 + c)))))
    (λ apart.
    outside (⊎_elim (λ below. inl (omega (arith, is_first, below)))
    (λ above. inr (omega (arith, is_last, above))) apart.1)
    ∙ before
    ∙ sym (ap (λ t. cond t cell 0) (in_ranges-more rs i (48 + c) more
    ∙ ap (λ t. in_ranges (take i rs) (48 + c) || t) apart.0
    ∙ or_false (in_ranges (take i rs) (48 + c)))))
    (in_range_tells (range_at rs i) (48 + c))
  where
    or_true : (t : Bool) → t || true ≡ true
    or_true true = refl
    or_true false = refl

    or_false : (t : Bool) → t || false ≡ t
    or_false true = refl
    or_false false = refl

pub no_cell_yet : (c : ℕ) → slice_index none c ≡ 0
no_cell_yet c = zero_at c

-- ---- lists from their ends
pub trees_behind : (subs : List Hir) (i : ℕ) (h : Hir) → 0 < i → i ≤ length subs →
    h ≡ get_or subs (i - 1) h →
    map meaning (drop (i - 1) subs) ≡ meaning h ∷ map meaning (drop i subs)
trees_behind subs i h p q e =
    let back : suc (i - 1) ≡ i = omega arith in
    ap (map meaning) (drop-cons subs (i - 1) h (omega arith)
    ∙ ap (λ x. x ∷ drop (suc (i - 1)) subs) (sym e) ∙ ap (λ n. h ∷ drop n subs) back)

pub gives_cat_one : (cells row : List ℕ) (next : ℕ) (a : Re) → GivesBefore cells row next a →
    GivesBefore cells row next (cat_all (a ∷ []))
gives_cat_one cells row next a gives = gives_cat cells row next next a empty gives
    (tells_empty cells next)

pub gives_cat_more : (old row between new front : List ℕ) (place next : ℕ) (a : Re) (rest : List Re)
    → between ≡ old ++ row → place ≡ length old → AreRows old → AreRows between →
    Grows between new → IsPlace old next → IsPlace between place →
    GivesBefore old row next (cat_all rest) → GivesBefore new front place a →
    GivesBefore new front next (cat_all (a ∷ rest))
gives_cat_more old row between new front place next a rest grown at are known grows in_next in_place
    gives first =
    gives_cat new front place next a (cat_all rest) first
    (TellsBefore-grows between new place next (cat_all rest) known.rows grows in_place
    (IsPlace-grows old between next (row, grown) in_next)
    (placed old row between place next (cat_all rest) grown at are in_next gives))

pub gives_no_branch : (cells row : List ℕ) (next : ℕ) → IsPlace cells next →
    ((c : ℕ) → c < 11 → slice_index row c ≡ 0) → GivesBefore cells row next (alt_all [])
unfolding attempt in_ranges
gives_no_branch cells row next inside none = record {
  lead = λ c low. subst (λ x. IsPlace cells (place_of x)) (sym (none c low))
      (omega (arith, inside));
  tell = λ hay digits k told p within. nowhere_tells cells row (drop p hay) p none
      (digits_behind hay p digits) ∙ sym (ap end_of (nothing k p (slice_get hay p)));
}
  where
    nothing : (k : Rest) (p : ℕ) (o : Option ℕ) →
        cond (is_some_and o (in_ranges [])) (k (p + 1)) None ≡ None
    nothing k p None = refl
    nothing k p (Some b) = refl

pub gives_branch_more : (old between new row one all : List ℕ) (next : ℕ) (a : Re) (rest : List Re)
    → AreRows old → AreRows between → Grows old between → Grows between new →
    IsPlace old next → GivesBefore between one next a → GivesBefore old row next (alt_all rest) →
    LeadInto new all → AreEither new all one row →
    GivesBefore new all next (alt_all (a ∷ rest))
gives_branch_more old between new row one all next a rest are known grows further in_next first
    second lead either =
    gives_alt new all one row next a (alt_all rest) either lead
    (GivesBefore-grows between new one next a known.rows further
    (IsPlace-grows old between next grows in_next) first)
    (GivesBefore-grows old new row next (alt_all rest) are.rows
    (Grows-twice old between new grows further) in_next second)

-- ---- repeated trees
pub tells_up_to : (old between third new more leave row : List ℕ) (place middle next n : ℕ)
    (greedy : Bool) (a : Re) → AreRows old → AreRows between → AreRows third →
    Grows old between → Grows between third → new ≡ third ++ row → place ≡ length third →
    IsPlace old middle → IsPlace old next →
    GivesBefore between more middle a → ((c : ℕ) → c < 11 →
    slice_index leave c ≡ cell_at between next c) → LeadInto between leave →
    LeadInto third row → AreChoice third row more leave greedy →
    TellsBefore old middle next (up_to greedy n a) →
    TellsBefore new place next (up_to greedy (n + 1) a)
tells_up_to old between third new more leave row place middle next n greedy a are known after grows
    further grown at in_middle in_next first same lead_leave lead choice second =
    let in_between = IsPlace-grows old between next grows in_next in
    let both = gives_cat between more middle next a (up_to greedy n a) first
    (TellsBefore-grows old between middle next (up_to greedy n a) are.rows grows in_middle
    in_next second) in
    let gives = gives_optional third row more leave next greedy (cat a (up_to greedy n a)) choice
    lead
    (GivesBefore-grows between third more next (cat a (up_to greedy n a)) known.rows further
    in_between both)
    (GivesBefore-grows between third leave next empty known.rows further in_between
    (gives_empty between leave next known same lead_leave)) in
    subst (λ m. TellsBefore new place next (up_to greedy m a)) (sym (add-one n))
    (placed third row new place next (optional greedy (cat a (up_to greedy n a))) grown at after
    (IsPlace-grows between third next further in_between) gives)

pub tells_more_copies : (old between new row : List ℕ) (place middle next n : ℕ) (a : Re) →
    AreRows old → AreRows between → Grows old between → new ≡ between ++ row →
    place ≡ length between →
    IsPlace old middle → IsPlace old next → GivesBefore between row middle a →
    TellsBefore old middle next (copies n a empty) →
    TellsBefore new place next (copies (n + 1) a empty)
tells_more_copies old between new row place middle next n a are known grows grown at in_middle
    in_next first second =
    subst (λ m. TellsBefore new place next (copies m a empty)) (sym (add-one n))
    (placed between row new place next (cat a (copies n a empty)) grown at known
    (IsPlace-grows old between next grows in_next)
    (gives_cat between row middle next a (copies n a empty) first
    (TellsBefore-grows old between middle next (copies n a empty) are.rows grows in_middle
    in_next second)))

pub gives_last_copy : (old new row : List ℕ) (middle next n count : ℕ) (a : Re) → AreRows old →
    Grows old new → n + 1 ≡ count → IsPlace old middle → IsPlace old next →
    GivesBefore new row middle a → TellsBefore old middle next (copies n a empty) →
    GivesBefore new row next (copies count a empty)
gives_last_copy old new row middle next n count a are grows is in_middle in_next first second =
    subst (λ m. GivesBefore new row next (copies m a empty)) (sym (add-one n) ∙ is)
    (gives_cat new row middle next a (copies n a empty) first
    (TellsBefore-grows old new middle next (copies n a empty) are.rows grows in_middle in_next
    second))

pub gives_repeat : (old new row : List ℕ) (middle next min max : ℕ) (greedy : Bool) (a : Re) →
    AreRows old → Grows old new → IsPlace old middle → IsPlace old next →
    GivesBefore new row middle (copies min a empty) →
    TellsBefore old middle next (up_to greedy (max - min) a) →
    GivesBefore new row next (repeat min (Some max) greedy a)
unfolding repeat
gives_repeat old new row middle next min max greedy a are grows in_middle in_next first second =
    gives_copies new row middle next min a (up_to greedy (max - min) a) first
    (TellsBefore-grows old new middle next (up_to greedy (max - min) a) are.rows grows in_middle
    in_next second)
