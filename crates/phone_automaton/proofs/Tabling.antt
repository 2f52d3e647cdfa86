-- A table whose cells are steps tells of a text of digits where its match ends.
use Rattle.std.proofs.Common.{◌≡◌, ◌<◌, ◌≤◌, ◌+◌, ◌-◌, ◌∷◌, [], ℕ, zero, suc, Bool}
use Rattle.std.proofs.Common.{true, false, cond, List, length, Option, Some, None, IfSome}
use Rattle.std.proofs.Common.{slice_index, refl, sym, ap, ◌∙◌, subst, arith, ne_eqb}
use Rattle.std.proofs.Common.{drop}
use Rattle.std.proofs.lemmas.Bool.{cond-false, cond-true}
use Rattle.std.proofs.lemmas.List.{drop_more}
use Rattle.std.specs.Option.{is_some, option_or}
use Rattle.regex_dfa.specs.Links.{best}
use Rattle.phone_automaton.specs.Digits.{cell_at, end_by, ends_here, or_here, place_of}

-- ---- a walk through a table
pub dead_end : (cells : List ℕ) (at : ℕ) (text : List ℕ) → end_by cells 0 at text ≡ None
dead_end cells at [] = refl
dead_end cells at (b ∷ bs) = refl

best_later : (x : Option ℕ) (ends : Bool) (at last : ℕ) →
    option_or (option_or x (cond ends (Some at) None)) (best last) ≡ option_or x
    (best (cond ends (at + 1) last))
best_later (Some e) ends at last = refl
best_later None false at last = refl
best_later None true at last =
    sym (cond-false _ None (Some (at + 1 - 1)) (ne_eqb (at + 1) 0 (omega arith))
    ∙ (let back : at + 1 - 1 ≡ at = omega arith in ap (λ (k : ℕ). Some k) back))

-- a step over the next digit
pub further : (cells text : List ℕ) (place at last : ℕ) → 0 < place → at < length text →
    option_or (end_by cells place at (drop at text)) (best last) ≡
    option_or (end_by cells (place_of (cell_at cells place (slice_index text at - 48))) (at + 1)
    (drop (at + 1) text))
    (best (cond (ends_here (cell_at cells place (slice_index text at - 48))) (at + 1) last))
further cells text place at last some inside =
    let cell = cell_at cells place (slice_index text at - 48) in
    let later = end_by cells (place_of cell) (at + 1) (drop (at + 1) text) in
    ap (λ l. option_or (end_by cells place at l) (best last)) (drop_more text at 0 inside)
    ∙ ap (λ o. option_or o (best last)) (cond-false _ None (or_here cell at later)
    (ne_eqb place 0 (omega arith)))
    ∙ best_later later (ends_here cell) at last

-- in the first row nothing more is found
pub given_up : (cells text : List ℕ) (place at last : ℕ) → place ≡ 0 →
    option_or (end_by cells place at text) (best last) ≡ best last
given_up cells text place at last none = ap (λ r. option_or (end_by cells r at text) (best last))
    none ∙ ap (λ o. option_or o (best last)) (dead_end cells at text)

drop_all : (l : List ℕ) (n : ℕ) → n ≡ length l → drop n l ≡ []
drop_all [] zero h = refl
drop_all [] (suc n) h = refl
drop_all (b ∷ bs) zero h = absurd (omega (arith, h))
drop_all (b ∷ bs) (suc n) h = drop_all bs n (omega (arith, h))

-- the step at the end of the text
pub finished : (cells text : List ℕ) (place at last : ℕ) → 0 < place → at ≡ length text →
    option_or (end_by cells place at (drop at text)) (best last) ≡ best
    (cond (ends_here (cell_at cells place 10)) (at + 1) last)
finished cells text place at last some done =
    ap (λ l. option_or (end_by cells place at l) (best last)) (drop_all text at done)
    ∙ ap (λ o. option_or o (best last)) (cond-false _ None
    (or_here (cell_at cells place 10) at None) (ne_eqb place 0 (omega arith)))
    ∙ best_later None (ends_here (cell_at cells place 10)) at last

pub best_within : (last n : ℕ) → last ≤ n + 1 → IfSome (best last) (λ e. e ≤ n)
best_within zero n h = tt
best_within (suc e) n h = subst (λ o. IfSome o (λ k. k ≤ n))
    (sym (cond-false _ None (Some (suc e - 1)) (ne_eqb (suc e) 0 (omega arith)))) (omega arith)

-- whether a match ends from a row on: its step over the next digit says it, or what follows does
pub stepped : (cells text : List ℕ) (place at : ℕ) → 0 < place → at < length text →
    end_by cells place at (drop at text) ≡
    or_here (cell_at cells place (slice_index text at - 48)) at
    (end_by cells (place_of (cell_at cells place (slice_index text at - 48))) (at + 1)
    (drop (at + 1) text))
stepped cells text place at some inside =
    let cell = cell_at cells place (slice_index text at - 48) in
    ap (end_by cells place at) (drop_more text at 0 inside)
    ∙ cond-false _ None (or_here cell at (end_by cells (place_of cell) (at + 1) (drop (at + 1) text)))
    (ne_eqb place 0 (omega arith))

-- a match that ends here is one
pub some_here : (cell at : ℕ) (later : Option ℕ) → ends_here cell ≡ true →
    is_some (or_here cell at later) ≡ true
some_here cell at None ends = ap is_some (cond-true (ends_here cell) (Some at) None ends)
some_here cell at (Some e) ends = refl

-- where none ends here, what follows says it
pub none_here : (cell at : ℕ) (later : Option ℕ) → ends_here cell ≡ false → or_here cell at later ≡ later
none_here cell at None ends = cond-false (ends_here cell) (Some at) None ends
none_here cell at (Some e) ends = refl

-- at the end of the text its own step says it
pub some_at_end : (cells text : List ℕ) (place at : ℕ) → 0 < place → at ≡ length text →
    is_some (end_by cells place at (drop at text)) ≡ ends_here (cell_at cells place 10)
some_at_end cells text place at some done =
    ap (λ l. is_some (end_by cells place at l)) (drop_all text at done)
    ∙ ap is_some (cond-false _ None (or_here (cell_at cells place 10) at None)
    (ne_eqb place 0 (omega arith)))
    ∙ told (ends_here (cell_at cells place 10))
  where
    told : (b : Bool) → is_some (cond b (Some at) None) ≡ b
    told true = refl
    told false = refl
