-- What a table alone tells of its tree.
use Rattle.std.proofs.Common.{◌≡◌, ◌<◌, ℕ, cond, List, length, None, Some, All, IfSome, option_map}
use Rattle.std.proofs.Common.{refl, sym, ap, ◌∙◌, arith}
use Rattle.std.proofs.lemmas.Bool.{cond-true}
use Rattle.std.proofs.lemmas.List.{length-set}
use Rattle.phone_automaton.proofs.Bridge.{ascii_boundary, ends_at_front}
use Rattle.phone_automaton.proofs.Parting.{front_by_end}
use Rattle.phone_automaton.specs.Digits.{AreDigits}
use Rattle.phone_automaton.specs.Finds.{front_end}
use Rattle.phone_automaton.specs.Parts.{AreFrontCells, with_end}
use Rattle.phone_automaton.specs.Rows.{by_row, GivesBefore, TellsAccept}
use Rattle.regex_hir.specs.Find.{find_str}
use Rattle.regex_hir.specs.Re.{Re, Rest, Trace, accept, attempt}
use Rattle.regex_hir.specs.Text.{is_boundary}
use Rattle.regex_vm.specs.Found.{group_cells, span}

ascii_of : (hay : List ℕ) → AreDigits hay → All (λ x. x < 128) hay
ascii_of hay digits k d h = let b = digits k d h in omega (arith, b.1)

bytes_of : (hay : List ℕ) → AreDigits hay → All (λ x. x < 256) hay
bytes_of hay digits k d h = let b = digits k d h in omega (arith, b.1)

-- where a search tries the tree
abbrev pub tries : Re → List ℕ → Rest
tries re hay i = cond (is_boundary hay i) (attempt hay re accept i) None

at_first : (re : Re) (hay : List ℕ) → AreDigits hay → tries re hay 0 ≡ attempt hay re accept 0
at_first re hay digits = cond-true (is_boundary hay 0) _ None
    (ascii_boundary hay (ascii_of hay digits) 0)

ends_first : (re : Re) (hay : List ℕ) →
    front_end (find_str re hay 0) ≡ option_map (λ (t : Trace). t.end) (tries re hay 0)
unfolding find_str
ends_first re hay = ends_at_front (tries re hay) (length hay)

-- a row that tells of a tree, and then of a match that ends there, tells of the match at the front
pub tells_of : (re : Re) (cells row : List ℕ) (next : ℕ) → GivesBefore cells row next re →
    TellsAccept cells next → (hay : List ℕ) → AreDigits hay →
    by_row cells row 0 hay ≡ front_end (find_str re hay 0)
tells_of re cells row next gives accepts hay digits =
    gives.tell hay digits accept (accepts hay digits) 0 (omega arith)
    ∙ ap (option_map (λ (t : Trace). t.end)) (sym (at_first re hay digits))
    ∙ sym (ends_first re hay)

-- the first match at the front, by its end alone
pub first_by_end : (re : Re) (hay front : List ℕ) (end : ℕ) → AreDigits hay →
    AreFrontCells re front → front_end (find_str re hay 0) ≡ Some end →
    (Some (0, end) ≡ option_map span (find_str re hay 0)) ×
    IfSome (find_str re hay 0) (λ m. with_end front end ≡ group_cells m
    (length (with_end front end)))
unfolding find_str
first_by_end re hay front end digits are is =
    front_by_end (tries re hay) (length hay) front (with_end front end) end
    (λ t some. are hay (bytes_of hay digits) t (sym (at_first re hay digits) ∙ some))
    (length-set front _ _) refl (sym (ends_first re hay) ∙ is)
