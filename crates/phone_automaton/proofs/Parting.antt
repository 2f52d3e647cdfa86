-- Groups one after the other: what they write, and the cells that hold it.
use Rattle.std.proofs.Common.{◌≡◌, ◌<◌, ◌+◌, ◌-◌, ◌*◌, ◌++◌, ℕ, zero, suc, Bool, true, false, cond, List, [], ◌∷◌, map, length, replicate, take, get_or, set, slice_get, nat_lt, Option, Some, None, All, IfSome, option_map, max, refl, sym, subst, ap, ap₂, ◌∙◌, arith, ne_eqb, eq-eqb, ⊎_elim, inl, inr}
use Rattle.std.proofs.lemmas.Bool.{cond-true, cond-false}
use Rattle.std.proofs.lemmas.List.{append_assoc, length-append, length-map, length-take-le, map-append, take_all, take_more}
use Rattle.std.proofs.lemmas.Option.{none-some, same_Some}
use Rattle.std.proofs.Math.Seq.{set-append_seam}
use Rattle.std.specs.Char.{len_utf8}
use Rattle.std.specs.List.{range_with_len}
use Rattle.std.specs.Option.{option_or}
use Rattle.phone_automaton.proofs.Bridge.{front_found}
use Rattle.phone_automaton.specs.Groups.{IsFoundIn}
use Rattle.phone_automaton.specs.Parts.{AreBefore, AreFrontCells, AreFrontCellsFor, IsGroup, IsGroupOf, LeadsTo, numbered, with_end}
use Rattle.regex_class.specs.Ranges.{in_ranges}
use Rattle.regex_compile.specs.Implements.{Implements}
use Rattle.regex_dfa.specs.Search.{end_from}
use Rattle.regex_hir.proofs.AttemptLemmas.{cond_some, is_some_and_parts, option_and_then_some}
use Rattle.regex_hir.proofs.FindLemmas.{first_between_here}
use Rattle.regex_hir.proofs.OptionLemmas.{option_or-None, option_or_cases, prefer_cases, write_cases}
use Rattle.regex_hir.specs.Find.{first_between, Match, last_write}
use Rattle.regex_hir.specs.Looks.{holds}
use Rattle.regex_hir.specs.Matches.{IsMinLen, Matches, Rounds, next_round, one_round}
use Rattle.regex_hir.specs.Meaning.{meaning, repeat}
use Rattle.regex_hir.specs.Re.{Re, Rest, Trace, accept, alt, attempt, byte_in, cat, char_in, empty, group, literal, look, more_rounds, plus, rounds}
use Rattle.regex_hir.specs.Text.{char_at, has_bytes_at}
use Rattle.regex_hir.specs.declared.hir.Hir.{Hir}
use Rattle.regex_nfa.specs.Run.{run}
use Rattle.regex_nfa.specs.declared.nfa.Nfa.{Nfa}
use Rattle.regex_syntax.proofs.GroupLemmas.{groups_of_choice, groups_repeat}
use Rattle.regex_syntax.proofs.SameLemmas.{cat-empty}
use Rattle.regex_syntax.proofs.TreeLemmas.{sequence_push}
use Rattle.regex_syntax.specs.Grammar.{group_count}
use Rattle.regex_syntax.specs.Same.{choice, sequence}
use Rattle.regex_syntax.specs.Views.{is_never}
use Rattle.regex_vm.specs.Found.{span, cell, group_cells}

-- no write from slot n on is one to a slot below
none_below : (n slot : ℕ) (ps : List ℕ) → slot < n → last_write (numbered n ps) slot ≡ None
none_below n slot [] h = refl
none_below n slot (p ∷ ps) h =
    ap₂ option_or (none_below (n + 1) slot ps (omega (arith, h))) (cond-false _ (Some p) None (ne_eqb n slot (omega (arith, h))))

abbrev cells_from : List (ℕ × ℕ) → ℕ → ℕ → List ℕ
cells_from ws n width = map (λ slot. cell (last_write ws slot)) (range_with_len n width)

cells_after : (w : ℕ × ℕ) (ws : List (ℕ × ℕ)) (n width : ℕ) → w.0 < n → cells_from (w ∷ ws) n width ≡ cells_from ws n width
cells_after w ws n zero h = refl
cells_after w ws n (suc width) h =
    ap₂ (λ (x : ℕ) xs. x ∷ xs)
    (ap cell (ap (option_or (last_write ws n)) (cond-false _ (Some w.1) None (ne_eqb w.0 n (omega (arith, h)))) ∙ option_or-None _))
    (cells_after w ws (n + 1) width (omega (arith, h)))

cells_of_none : (n width : ℕ) → cells_from [] n width ≡ replicate width 0
cells_of_none n zero = refl
cells_of_none n (suc width) = ap (λ (xs : List ℕ). 0 ∷ xs) (cells_of_none (n + 1) width)

cells_of_numbered : (ps : List ℕ) (n free width : ℕ) → length ps + free ≡ width →
    cells_from (numbered n ps) n width ≡ map (λ p. p + 1) ps ++ replicate free 0
cells_of_numbered [] n free width e =
    cells_of_none n width ∙ (let same : width ≡ free = omega (arith, e) in ap (λ c. replicate c 0) same)
cells_of_numbered (p ∷ ps) n free zero e = absurd (omega (arith, e))
cells_of_numbered (p ∷ ps) n free (suc width) e =
    ap₂ (λ (x : ℕ) xs. x ∷ xs)
    (ap cell (ap₂ option_or (none_below (n + 1) n ps (omega arith)) (cond-true _ (Some p) None (eq-eqb n n refl))))
    (cells_after (n, p) (numbered (n + 1) ps) (n + 1) width (omega arith) ∙ cells_of_numbered ps (n + 1) free width (omega (arith, e)))

two_further : (f : ℕ → ℕ) (n width : ℕ) → map (λ k. f (k + 2)) (range_with_len n width) ≡ map f (range_with_len (n + 2) width)
two_further f n zero = refl
two_further f n (suc width) =
    let same : n + 1 + 2 ≡ n + 2 + 1 = omega arith in
    ap (λ (xs : List ℕ). f (n + 2) ∷ xs) (two_further f (n + 1) width ∙ ap (λ a. map f (range_with_len a width)) same)

-- the cells of positions that were written to one slot after the other
group_cells-numbered : (m : Match) (ps : List ℕ) (free width : ℕ) → m.trace.writes ≡ numbered 2 ps → length ps + free ≡ width →
    group_cells m width ≡ map (λ p. p + 1) ps ++ replicate free 0
unfolding group_cells
group_cells-numbered m ps free width wrote fits =
    two_further (λ slot. cell (last_write m.trace.writes slot)) 0 width
    ∙ ap (λ ws. cells_from ws 2 width) wrote
    ∙ cells_of_numbered ps 2 free width fits

numbered-append : (n m : ℕ) (xs ys : List ℕ) → n + length xs ≡ m → numbered n (xs ++ ys) ≡ numbered n xs ++ numbered m ys
numbered-append n m [] ys e = (let same : n ≡ m = omega (arith, e) in ap (λ s. numbered s ys) same)
numbered-append n m (x ∷ xs) ys e = ap (λ ws. (n, x) ∷ ws) (numbered-append (n + 1) m xs ys (omega (arith, e)))

-- R leads from i to a position from which k gave the trace itself
record Passes (R : ℕ → ℕ → Type 0) (k : Rest) (i : ℕ) (t : Trace) : Type 0 where
  at : ℕ
  leads : R i at
  gave : k at ≡ Some t

abbrev PassesAlong : (Rest → Rest) → (ℕ → ℕ → Type 0) → Type 0
PassesAlong body R = (k : Rest) (i : ℕ) (t : Trace) → body k i ≡ Some t → Passes R k i t

rounds_pass : (greedy : Bool) (body : Rest → Rest) (R : ℕ → ℕ → Type 0) → PassesAlong body R → (k : Rest) (i : ℕ) →
    (n j : ℕ) (t : Trace) → Rounds R i j → rounds greedy body k n j ≡ Some t → Passes (Rounds R) k i t
unfolding rounds
rounds_pass greedy body R along k i zero j t p e = record { at = j; leads = p; gave = e }
rounds_pass greedy body R along k i (suc n) j t p e =
    ⊎_elim
    (λ round.
    let c = along _ j t round in
    rounds_pass greedy body R along k i n c.at t (next_round j c.at p c.leads) (cond_some (nat_lt j c.at) _ t c.gave).1)
    (λ leave. record { at = j; leads = p; gave = leave })
    (prefer_cases greedy _ (k j) t e)

first_round_passes : (hay : List ℕ) (greedy : Bool) (body : Rest → Rest) (R : ℕ → ℕ → Type 0) → PassesAlong body R →
    (k : Rest) (i j : ℕ) (t : Trace) (moved : Bool) → R i j →
    cond moved (more_rounds hay greedy body k j) (k j) ≡ Some t → Passes (Rounds R) k i t
first_round_passes hay greedy body R along k i j t true r e =
    rounds_pass greedy body R along k i (length hay - j) j t (one_round j r) e
first_round_passes hay greedy body R along k i j t false r e = record { at = j; leads = one_round j r; gave = e }

-- a tree without groups writes nothing
attempt_passes : (hay : List ℕ) (re : Re) → group_count re ≡ 0 → PassesAlong (attempt hay re) (Matches hay re)
unfolding attempt
attempt_passes hay empty none k i t e = record { at = i; leads = refl; gave = e }
attempt_passes hay (literal bs) none k i t e =
    let p = cond_some (has_bytes_at hay i bs) _ t e in
    record { at = i + length bs; leads = (p.0, refl); gave = p.1 }
attempt_passes hay (byte_in rs) none k i t e =
    let p = cond_some _ _ t e in
    let b = is_some_and_parts (slice_get hay i) (in_ranges rs) p.0 in
    record { at = i + 1; leads = (b.0, b.1, b.2, refl); gave = p.1 }
attempt_passes hay (char_in rs) none k i t e =
    let c = option_and_then_some _ (char_at hay i) t e in
    let p = cond_some (in_ranges rs c.0) _ t c.2 in
    record { at = i + len_utf8 c.0; leads = (c.0, c.1, p.0, refl); gave = p.1 }
attempt_passes hay (look l) none k i t e =
    let p = cond_some (holds l hay i) _ t e in
    record { at = i; leads = (p.0, refl); gave = p.1 }
attempt_passes hay (cat a b) none k i t e =
    let front = attempt_passes hay a (omega (arith, none)) _ i t e in
    let back = attempt_passes hay b (omega (arith, none)) k front.at t front.gave in
    record { at = back.at; leads = (front.at, front.leads, back.leads); gave = back.gave }
attempt_passes hay (alt a b) none k i t e =
    ⊎_elim
    (λ left. let c = attempt_passes hay a (omega (arith, none)) k i t left in
    record { at = c.at; leads = inl c.leads; gave = c.gave })
    (λ right. let c = attempt_passes hay b (omega (arith, none)) k i t right.1 in
    record { at = c.at; leads = inr c.leads; gave = c.gave })
    (option_or_cases _ _ t e)
attempt_passes hay (group n a) none k i t e = absurd (omega (arith, none))
attempt_passes hay (plus greedy a) none k i t e =
    let c = attempt_passes hay a none _ i t e in
    first_round_passes hay greedy (attempt hay a) (Matches hay a) (attempt_passes hay a none) k i c.at t (nat_lt i c.at) c.leads c.gave

-- a group that holds no other writes where it begins and ends
record GroupPasses (hay : List ℕ) (n : ℕ) (a : Re) (k : Rest) (i : ℕ) (t : Trace) : Type 0 where
  at : ℕ
  leads : Matches hay a i at
  rest : Trace
  gave : k at ≡ Some rest
  same_end : t.end ≡ rest.end
  wrote : t.writes ≡ (2 * n, i) ∷ (2 * n + 1, at) ∷ rest.writes

group_passes : (hay : List ℕ) (n : ℕ) (a : Re) (k : Rest) (i : ℕ) (t : Trace) → group_count a ≡ 0 →
    attempt hay (group n a) k i ≡ Some t → GroupPasses hay n a k i t
unfolding attempt
group_passes hay n a k i t none e =
    let opened = write_cases (2 * n) i _ t e in
    let c = attempt_passes hay a none _ i opened.0 opened.1 in
    let closed = write_cases (2 * n + 1) c.at (k c.at) opened.0 c.gave in
    record {
      at = c.at;
      leads = c.leads;
      rest = closed.0;
      gave = closed.1;
      same_end = opened.2 ∙ closed.2;
      wrote = opened.3 ∙ ap (λ (ws : List (ℕ × ℕ)). (2 * n, i) ∷ ws) closed.3;
    }

-- nothing leads to the front
pub before_all : (b : AreBefore (1 ∷ []) 0 (sequence [])) × (1 ≡ b.at + 1)
unfolding attempt
before_all = (
  record {
    at = 0;
    ps = [];
    are = refl;
    two_each = refl;
    leads = λ hay ok k t e. record { rest = t; gave = e; same_end = refl; wrote = refl };
  },
  refl,
)

-- one group further on, whose matches have one length
one_further : (re b : Re) (p n number : ℕ) (ps : List ℕ) → 2 + length ps ≡ 2 * number → LeadsTo re p ps → IsGroupOf number b n →
    LeadsTo (cat re b) (p + n) (ps ++ p ∷ (p + n) ∷ [])
unfolding attempt IsMinLen
one_further re b p n number ps slots leads (a, is, none, least, most) hay ok k t e =
    let front = leads hay ok (attempt hay b k) t e in
    let it = group_passes hay number a k p front.rest none (ap (λ (r : Re). attempt hay r k p) (sym is) ∙ front.gave) in
    let low = least hay p it.at it.leads in
    let high = most hay ok p it.at it.leads in
    let there : it.at ≡ p + n = omega (arith, low, high) in
    record {
      rest = it.rest;
      gave = ap k (sym there) ∙ it.gave;
      same_end = front.same_end ∙ it.same_end;
      wrote = front.wrote
          ∙ ap (λ ws. numbered 2 ps ++ ws) (it.wrote ∙ ap₂ (λ (s q : ℕ). (s, p) ∷ (s + 1, q) ∷ it.rest.writes) (sym slots) there)
          ∙ sym (append_assoc (numbered 2 ps) ((2 + length ps, p) ∷ (2 + length ps + 1, p + n) ∷ []) it.rest.writes)
          ∙ ap (λ ws. ws ++ it.rest.writes) (sym (numbered-append 2 (2 + length ps) ps (p ∷ (p + n) ∷ []) refl));
    }

-- the last group, which ends where the match does
last_written : (re b : Re) (p number : ℕ) (ps : List ℕ) → 2 + length ps ≡ 2 * number → LeadsTo re p ps → IsGroup number b →
    (hay : List ℕ) → All (λ x. x < 256) hay → (t : Trace) → attempt hay (cat re b) accept 0 ≡ Some t →
    t.writes ≡ numbered 2 (ps ++ p ∷ t.end ∷ [])
unfolding attempt
last_written re b p number ps slots leads (a, is, none) hay ok t e =
    let front = leads hay ok (attempt hay b accept) t e in
    let it = group_passes hay number a accept p front.rest none (ap (λ (r : Re). attempt hay r accept p) (sym is) ∙ front.gave) in
    let whole = same_Some _ _ it.gave in
    let end : it.at ≡ t.end = ap (λ (u : Trace). u.end) whole ∙ sym (front.same_end ∙ it.same_end) in
    let nothing : it.rest.writes ≡ [] = sym (ap (λ (u : Trace). u.writes) whole) in
    front.wrote
    ∙ ap (λ ws. numbered 2 ps ++ ws)
    (it.wrote
    ∙ ap₂ (λ (s q : ℕ). (s, p) ∷ (s + 1, q) ∷ it.rest.writes) (sym slots) end
    ∙ ap (λ (ws : List (ℕ × ℕ)). (2 + length ps, p) ∷ (2 + length ps + 1, t.end) ∷ ws) nothing)
    ∙ sym (numbered-append 2 (2 + length ps) ps (p ∷ t.end ∷ []) refl)

-- one cell for the end of the next group, and one for the beginning of the one after it
pub more_before : (cells : List ℕ) (subs : List Hir) (i n e : ℕ) (h : Hir) → i < length subs → h ≡ get_or subs i h →
    (b : AreBefore cells i (sequence (take i subs))) → IsGroupOf (i + 1) (meaning h) n → e ≡ b.at + 1 + n →
    (c : AreBefore ((cells ++ e ∷ []) ++ e ∷ []) (i + 1) (sequence (take (i + 1) subs))) × (e ≡ c.at + 1)
more_before cells subs i n e h inside here b one is =
    let grown : take (i + 1) subs ≡ take i subs ++ h ∷ [] = take_more subs i h inside ∙ ap (λ x. take i subs ++ x ∷ []) (sym here) in
    let same = (sequence_push (take (i + 1) subs) (take i subs) h grown).matches in
    let slots : 2 + length b.ps ≡ 2 * (i + 1) = omega (arith, b.two_each) in
    let further = one_further (sequence (take i subs)) (meaning h) b.at n (i + 1) b.ps slots b.leads one in
    let next : e ≡ b.at + n + 1 = omega (arith, is) in (
      record {
        at = b.at + n;
        ps = b.ps ++ b.at ∷ (b.at + n) ∷ [];
        are = ap (λ (c : List ℕ). (c ++ e ∷ []) ++ e ∷ []) b.are
            ∙ ap (λ (c : List ℕ). c ++ e ∷ []) (append_assoc (map (λ p. p + 1) b.ps) ((b.at + 1) ∷ []) (e ∷ []))
            ∙ ap (λ (x : ℕ). (map (λ p. p + 1) b.ps ++ (b.at + 1) ∷ x ∷ []) ++ x ∷ []) next
            ∙ ap (λ (c : List ℕ). c ++ (b.at + n + 1) ∷ []) (sym (map-append (λ p. p + 1) b.ps (b.at ∷ (b.at + n) ∷ [])));
        two_each = length-append b.ps (b.at ∷ (b.at + n) ∷ []) ∙ omega (arith, b.two_each);
        leads = λ hay ok k t e. further hay ok k t (sym (same.at hay ok k 0) ∙ e);
      },
      next,
    )

-- with the cells of the last group, and of one that there isn't
all_told : (cells : List ℕ) (subs : List Hir) (i : ℕ) (h : Hir) → i + 1 ≡ length subs → h ≡ get_or subs i h →
    AreBefore cells i (sequence (take i subs)) → IsGroup (i + 1) (meaning h) → AreFrontCells (sequence subs) (cells ++ 0 ∷ 0 ∷ 0 ∷ [])
all_told cells subs i h last here b one hay ok t e =
    let all : subs ≡ take i subs ++ h ∷ [] =
    sym (take_all (i + 1) subs (omega (arith, last))) ∙ take_more subs i h (omega (arith, last)) ∙ ap (λ x. take i subs ++ x ∷ []) (sym here) in
    let same = (sequence_push subs (take i subs) h all).matches in
    let slots : 2 + length b.ps ≡ 2 * (i + 1) = omega (arith, b.two_each) in
    let wrote = last_written (sequence (take i subs)) (meaning h) b.at (i + 1) b.ps slots b.leads one hay ok t (sym (same.at hay ok accept 0) ∙ e) in
    let front : List ℕ = map (λ p. p + 1) b.ps in
    let many : length cells ≡ length b.ps + 1 = ap length b.are ∙ length-append front ((b.at + 1) ∷ []) ∙ ap (λ n. n + 1) (length-map b.ps (λ p. p + 1)) in
    let width : length (cells ++ 0 ∷ 0 ∷ 0 ∷ []) ≡ length cells + 3 = length-append cells (0 ∷ 0 ∷ 0 ∷ []) in
    let place : length (cells ++ 0 ∷ 0 ∷ 0 ∷ []) - 3 ≡ length cells = omega (arith, width) in
    let ends = b.ps ++ b.at ∷ t.end ∷ [] in
    let some : length ends ≡ length b.ps + 2 = length-append b.ps (b.at ∷ t.end ∷ []) in
    ap (λ n. set (cells ++ 0 ∷ 0 ∷ 0 ∷ []) n (t.end + 1)) place
    ∙ set-append_seam cells 0 (0 ∷ 0 ∷ []) (t.end + 1)
    ∙ ap (λ (c : List ℕ). c ++ (t.end + 1) ∷ 0 ∷ 0 ∷ []) b.are
    ∙ append_assoc front ((b.at + 1) ∷ []) ((t.end + 1) ∷ 0 ∷ 0 ∷ [])
    ∙ sym
    (group_cells-numbered (record { start = 0; trace = t }) ends 2 _ wrote (omega (arith, many, width, some))
    ∙ ap (λ (c : List ℕ). c ++ 0 ∷ 0 ∷ []) (map-append (λ p. p + 1) b.ps (b.at ∷ t.end ∷ []))
    ∙ append_assoc front ((b.at + 1) ∷ (t.end + 1) ∷ []) (0 ∷ 0 ∷ []))

pub whole_told : (cells : List ℕ) (subs : List Hir) (h : Hir) → 0 < length subs → h ≡ get_or subs (length subs - 1) h →
    AreBefore cells (length (take (length subs - 1) subs)) (sequence (take (length subs - 1) subs)) → IsGroup (length subs) (meaning h) →
    AreFrontCells (sequence subs) (cells ++ 0 ∷ 0 ∷ 0 ∷ [])
whole_told cells subs h some here b one =
    let last : length subs - 1 + 1 ≡ length subs = omega (arith, some) in
    let before : length (take (length subs - 1) subs) ≡ length subs - 1 = length-take-le (length subs - 1) subs (omega arith) in
    all_told cells subs (length subs - 1) h last here
    (subst (λ n. AreBefore cells n (sequence (take (length subs - 1) subs))) before b)
    (subst (λ n. IsGroup n (meaning h)) (sym last) one)

-- no cells say nothing
pub none_told : (re : Re) → AreFrontCells re []
unfolding group_cells
none_told re hay ok t e = refl

-- a tree is a sequence of itself
pub one_told : (h : Hir) (cells : List ℕ) → AreFrontCells (sequence (h ∷ [])) cells → AreFrontCells (meaning h) cells
one_told h cells are hay ok t e = are hay ok t ((cat-empty (meaning h)).at hay ok accept 0 ∙ e)

-- what holds of a tree holds of its automaton
pub for_automaton : (re : Re) (nfa : Nfa) (cells : List ℕ) → Implements nfa re → AreFrontCells re cells → AreFrontCellsFor nfa cells
for_automaton re nfa cells implements are hay ok t e = are hay ok t (sym (implements hay 0) ∙ e)

-- a match at the front, by its end alone
pub front_by_end : (at : Rest) (last : ℕ) (front cells : List ℕ) (end : ℕ) →
    ((t : Trace) → at 0 ≡ Some t → with_end front t.end ≡ group_cells (record { start = 0; trace = t }) (length front)) →
    length cells ≡ length front → cells ≡ with_end front end → option_map (λ (t : Trace). t.end) (at 0) ≡ Some end →
    (Some (0, end) ≡ option_map span (first_between at 0 last)) × IfSome (first_between at 0 last) (λ m. cells ≡ group_cells m (length cells))
front_by_end at last front cells end are wide put is = (front_found at last end is, go (at 0) refl)
  where
    go : (o : Option Trace) → at 0 ≡ o → IfSome (first_between at 0 last) (λ m. cells ≡ group_cells m (length cells))
    go None none = absurd (none-some end (sym (ap (option_map (λ (t : Trace). t.end)) none) ∙ is))
    go (Some t) some =
        let ends : t.end ≡ end = same_Some _ _ (sym (ap (option_map (λ (t : Trace). t.end)) some) ∙ is) in
        subst (λ (o : Option Match). IfSome o (λ m. cells ≡ group_cells m (length cells)))
        (sym (first_between_here at 0 last t (omega arith) some))
        (put
        ∙ ap (with_end front) (sym ends)
        ∙ are t some
        ∙ ap (group_cells (record { start = 0; trace = t })) (sym wide))

pub found_by_end : (nfa : Nfa) (hay : List ℕ) (front cells : List ℕ) (end : ℕ) → All (λ x. x < 256) hay → AreFrontCellsFor nfa front →
    length cells ≡ length front → cells ≡ with_end front end → end_from nfa hay (length hay) nfa.start 0 ≡ Some end →
    IsFoundIn nfa hay cells (Some (0, end))
found_by_end nfa hay front cells end ok are wide put is =
    front_by_end (run nfa hay (length hay) nfa.start) (length hay) front cells end (are hay ok) wide put is

-- a repetition holds no group where what it repeats holds none
pub repeats_none : (least : ℕ) (most : Option ℕ) (greedy : Bool) (a : Re) → group_count a ≡ 0 → group_count (repeat least most greedy a) ≡ 0
repeats_none least most greedy a none = (groups_repeat least most greedy a).count ∙ go (is_never least most)
  where
    go : (b : Bool) → group_count (cond b empty a) ≡ 0
    go true = refl
    go false = none

-- a sequence holds none where its parts hold none
pub none_in_more : (subs : List Hir) (i : ℕ) (h : Hir) → i < length subs → h ≡ get_or subs i h →
    group_count (sequence (take i subs)) ≡ 0 → group_count (meaning h) ≡ 0 → group_count (sequence (take (i + 1) subs)) ≡ 0
none_in_more subs i h inside here none one =
    let grown : take (i + 1) subs ≡ take i subs ++ h ∷ [] = take_more subs i h inside ∙ ap (λ x. take i subs ++ x ∷ []) (sym here) in
    (sequence_push (take (i + 1) subs) (take i subs) h grown).groups.count ∙ ap₂ max none one

pub none_in_choice : (subs : List Hir) → group_count (sequence subs) ≡ 0 → group_count (choice subs) ≡ 0
none_in_choice subs none = (groups_of_choice subs).count ∙ none
