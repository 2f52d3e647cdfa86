-- An automaton of the tree cut to ASCII finds in ASCII texts what the tree finds, and its cells hold the groups' slots.
use Rattle.std.proofs.Common.{◌≡◌, ◌<◌, ◌≤◌, ◌+◌, ◌-◌, ◌*◌, ℕ, zero, suc, true, cond, List, length, take, drop, ◌++◌, Option, None, Some, All, IfOk, IfSome, MatchOption, Result, Ok, Err, String, Global, string_bytes, option_map, slice_index, refl, sym, ap, ap₂, ◌∙◌, inl, inr, arith, ne_eqb, false, IsSome, is_some}
use Rattle.std.proofs.lemmas.Bool.{cases_lt, cond-true, cond-false}
use Rattle.std.proofs.lemmas.Bool.Decides.{nat_tests}
use Rattle.std.proofs.lemmas.List.FromFn.{get_or-map-range_with_len}
use Rattle.std.proofs.lemmas.Option.{slice_get_past, slice_get-get_or, none-some, same_Some}
use Rattle.std.specs.Option.{option_or}
use Rattle.std.specs.declared.alloc.AllocError.{AllocError}
use Rattle.phone_automaton.specs.Ascii.{AsciiSame}
use Rattle.phone_automaton.specs.Groups.{captured_at, IsFoundIn}
use Rattle.phone_automaton.specs.Finds.{at_front, captured, found_by, front_end, group, group_at, position, FindsInAscii}
use Rattle.phone_automaton.specs.Templates.{with_match_replaced, AreTexts, IsWritten}
use Rattle.regex.specs.Replace.{bytes_of}
use Rattle.regex.specs.Writes.{both}
use Rattle.regex_compile.specs.Implements.{Implements}
use Rattle.regex_hir.specs.Find.{Match, first_between, find_str, last_write, slot_of}
use Rattle.regex_hir.specs.Re.{Re, Rest, Trace, attempt, accept}
use Rattle.regex_hir.specs.Text.{is_boundary}
use Rattle.regex_hir.proofs.FindLemmas.{first_between_here, first_between_next, first_between_cong, IsFirst-of_first_between}
use Rattle.regex_hir.proofs.OptionLemmas.{option_or-None}
use Rattle.regex_nfa.specs.Run.{run}
use Rattle.regex_nfa.specs.declared.nfa.Nfa.{Nfa}
use Rattle.regex_syntax.specs.Grammar.{Names}
use Rattle.regex_vm.specs.Found.{span, cell, group_cells}

pub ascii_boundary : (hay : List ℕ) → All (λ x. x < 128) hay → (i : ℕ) → is_boundary hay i ≡ true
unfolding is_boundary
ascii_boundary hay ok i = elim (cases_lt i (length hay)) [
  | inl lt ↦ let small = ok i 0 lt in rw (slice_get-get_or hay i 0 lt) (grind (arith, nat_tests))
  | inr ge ↦ rw (slice_get_past hay i ge) refl
]

-- the automaton of a tree that matches ASCII text as another tree finds what that one does
pub finds_in_ascii : (whole cut : Re) (nfa : Nfa) → AsciiSame cut whole → Implements nfa cut → FindsInAscii whole (found_by nfa)
unfolding find_str
finds_in_ascii whole cut nfa same implements hay ok =
    first_between_cong (run nfa hay (length hay) nfa.start) (λ i. cond (is_boundary hay i) (attempt hay whole accept i) None) 0 (length hay)
    (λ i low high.
    implements hay i ∙ ap (λ (f : Rest → Rest). f accept i) (same hay ok)
    ∙ sym (cond-true (is_boundary hay i) _ None (ascii_boundary hay ok i)))

abbrev end_of : Option Trace → Option ℕ
end_of = option_map (λ (t : Trace). t.end)

-- a match at the front is the first one
pub front_found : (at : Rest) (last e : ℕ) → end_of (at 0) ≡ Some e → Some (0, e) ≡ option_map span (first_between at 0 last)
front_found at last e is = go (at 0) refl
  where
    go : (o : Option Trace) → at 0 ≡ o → Some (0, e) ≡ option_map span (first_between at 0 last)
    go None none = absurd (none-some e (sym (ap end_of none) ∙ is))
    go (Some t) some =
        ap (λ (k : ℕ). Some (0, k)) (sym (same_Some _ _ (sym (ap end_of some) ∙ is)))
        ∙ sym (ap (option_map span) (first_between_here at 0 last t (omega arith) some))

later : (o : Option Match) → ((m : Match) → o ≡ Some m → 1 ≤ m.start) → at_front o ≡ false
later None h = refl
later (Some m) h = let from = h m refl in ne_eqb m.start 0 (omega arith)

from_front : (at : Rest) (last : ℕ) (o : Option Trace) → at 0 ≡ o → at_front (first_between at 0 last) ≡ is_some o
from_front at last (Some t) e = ap at_front (first_between_here at 0 last t (omega arith) e)
from_front at last None e =
    ap at_front (first_between_next at 0 last e)
    ∙ later _ (λ m found. (IsFirst-of_first_between at 1 last m found).from)

some_there : (o : Option Trace) → IsSome (end_of o) → true ≡ is_some o
some_there None h = sym h
some_there (Some t) h = refl

none_there : (o : Option Trace) → end_of o ≡ None → false ≡ is_some o
none_there None h = refl
none_there (Some t) h = absurd (none-some t.end (sym h))

-- the first match begins at the front where something matches there, and only there
pub begins_there : (at : Rest) (last : ℕ) → IsSome (end_of (at 0)) → true ≡ at_front (first_between at 0 last)
begins_there at last h = some_there _ h ∙ sym (from_front at last _ refl)

pub begins_nowhere : (at : Rest) (last : ℕ) → end_of (at 0) ≡ None → false ≡ at_front (first_between at 0 last)
begins_nowhere at last h = none_there _ h ∙ sym (from_front at last _ refl)

later_end : (o : Option Match) → ((m : Match) → o ≡ Some m → 1 ≤ m.start) → front_end o ≡ None
later_end None h = refl
later_end (Some m) h = let from = h m refl in cond-false _ _ _ (ne_eqb m.start 0 (omega arith))

-- a match at the front ends where what matches there does
pub ends_at_front : (at : Rest) (last : ℕ) → front_end (first_between at 0 last) ≡ end_of (at 0)
ends_at_front at last = go (at 0) refl
  where
    go : (o : Option Trace) → at 0 ≡ o → front_end (first_between at 0 last) ≡ end_of o
    go (Some t) e = ap front_end (first_between_here at 0 last t (omega arith) e)
    go None e =
        ap front_end (first_between_next at 0 last e)
        ∙ later_end _ (λ m found. (IsFirst-of_first_between at 1 last m found).from)

-- a slot of a group is its last write
slot_of_group : (m : Match) (slot : ℕ) → 2 ≤ slot → slot_of m slot ≡ last_write m.trace.writes slot
unfolding slot_of
slot_of_group m slot high =
    ap₂ option_or
    (ap (option_or (last_write m.trace.writes slot)) (cond-false _ (Some m.trace.end) None (ne_eqb 1 slot (omega arith)))
    ∙ option_or-None _)
    (cond-false _ (Some m.start) None (ne_eqb 0 slot (omega arith)))
    ∙ option_or-None _

position_cell : (o : Option ℕ) → position (cell o) ≡ o
position_cell None = refl
position_cell (Some i) = cond-false _ None (Some (i + 1 - 1)) (ne_eqb (i + 1) 0 (omega arith)) ∙ (let back : i + 1 - 1 ≡ i = omega arith in ap (λ (x : ℕ). Some x) back)

-- the cell of a slot holds its position
position_at : (m : Match) (width k slot : ℕ) → k < width → k + 2 ≡ slot → position (slice_index (group_cells m width) k) ≡ slot_of m slot
unfolding group_cells
position_at m width k slot inside is =
    ap position (get_or-map-range_with_len (λ j. cell (last_write m.trace.writes (j + 2))) 0 width k k 0 inside (omega arith))
    ∙ position_cell _
    ∙ ap (last_write m.trace.writes) is
    ∙ sym (slot_of_group m slot (omega arith))

-- the cells of a match give its groups
pub group_at-group : (m : Match) (width n : ℕ) → 2 * n ≤ width → group_at (span m) (group_cells m width) n ≡ group m n
group_at-group m width zero fits = refl
group_at-group m width (suc n) fits =
    cond-false _ _ _ (ne_eqb (suc n) 0 (omega arith))
    ∙ ap₂ both (position_at m width (2 * suc n - 2) (2 * suc n) (omega arith) (omega arith))
    (position_at m width (2 * suc n - 1) (2 * suc n + 1) (omega arith) (omega arith))
    ∙ sym (cond-false _ _ _ (ne_eqb (suc n) 0 (omega arith)))

captured_of_cells : (o : Option Match) (s : Option (ℕ × ℕ)) (cells : List ℕ) (width last : ℕ) → s ≡ option_map span o →
    IfSome o (λ m. cells ≡ group_cells m width) → 2 ≤ width → 2 * last ≤ width →
    option_map (captured_at last cells) s ≡ option_map (captured last) o
captured_of_cells None s cells width last e told one fits = rw e refl
captured_of_cells (Some m) s cells width last e told one fits =
    rw (e, told)
    (ap₂ (λ (a b : Option (ℕ × ℕ)). Some (record { span = span m; first = a; last = b }))
    (group_at-group m width 1 (omega arith)) (group_at-group m width last fits))

-- what a search answers that came to an end
pub captured_found : (hay : List ℕ) (nfa : Nfa) (s : Option (ℕ × ℕ)) (cells : List ℕ) (last : ℕ) → IsFoundIn nfa hay cells s → length cells ≡ 2 * last + 2 →
    option_map (captured_at last cells) s ≡ option_map (captured last) (found_by nfa hay)
captured_found hay nfa s cells last all room = captured_of_cells _ s cells (length cells) last all.0 all.1 (omega arith) (omega arith)

-- what holds of what is there, if it is there
pub IfSome-weaker : {A : Type 0} (P Q : A → Type 0) → ((x : A) → P x → Q x) → (o : Option A) → IfSome o P → IfSome o Q
IfSome-weaker P Q f None h = h
IfSome-weaker P Q f (Some x) h = f x h

-- what a template's writer answers for a match
abbrev pub Parts : List ℕ → List ℕ → List ℕ → ℕ × ℕ → List ℕ → Type 0
Parts template hay cells s text = (bytes : List ℕ) × (text ≡ (take s.0 hay ++ bytes) ++ drop s.1 hay) × IsWritten template hay s cells bytes

-- a text in which what a template writes stands in the place of a match; without one it stays as it is
pub replaced_in : (template hay cells text : List ℕ) (o : Option Match) (found : Option (ℕ × ℕ)) → found ≡ option_map span o →
    IfSome o (λ m. cells ≡ group_cells m (length cells)) → MatchOption found (text ≡ hay) (λ s. Parts template hay cells s text) →
    (names : Names) → text ≡ with_match_replaced names template hay o
replaced_in template hay cells text None None e cells_are told names = told
replaced_in template hay cells text None (Some s) e cells_are told names = absurd (none-some s (sym e))
replaced_in template hay cells text (Some m) None e cells_are told names = absurd (none-some (span m) e)
replaced_in template hay cells text (Some m) (Some s) e cells_are (bytes, parts, written) names =
    let same : s ≡ span m = same_Some _ _ e in
    let texts : AreTexts hay s cells (λ n. bytes_of hay (group m n)) =
    λ n fits. ap (bytes_of hay) (sym (ap₂ (λ (w : ℕ × ℕ) (c : List ℕ). group_at w c n) same cells_are ∙ group_at-group m (length cells) n fits)) in
    parts
    ∙ ap₂ (λ (w : ℕ × ℕ) (b : List ℕ). (take w.0 hay ++ b) ++ drop w.1 hay) same (written names (λ n. bytes_of hay (group m n)) texts)

-- so of the match that was found
pub replaced_found : (template hay : List ℕ) (nfa : Nfa) (found : Option (ℕ × ℕ)) (cells : List ℕ) (text : List ℕ) → IsFoundIn nfa hay cells found →
    MatchOption found (text ≡ hay) (λ s. Parts template hay cells s text) →
    (names : Names) → text ≡ with_match_replaced names template hay (found_by nfa hay)
replaced_found template hay nfa found cells text all told names = replaced_in template hay cells text (found_by nfa hay) found all.0 all.1 told names

-- what holds of a text that was made
pub made_again : (P Q : List ℕ → Type 0) → ((text : List ℕ) → P text → Q text) → (r : Result (Option (String Global)) AllocError) →
    IfOk r (λ made. IfSome made (λ out. P (string_bytes out))) → IfOk r (λ made. IfSome made (λ out. Q (string_bytes out)))
made_again P Q f (Ok None) h = h
made_again P Q f (Ok (Some out)) h = f (string_bytes out) h
made_again P Q f (Err e) h = h
