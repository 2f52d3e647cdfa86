-- What holds at each border of a text, from the left on.
use Rattle.std.proofs.Common.{◌≡◌, ℕ, ◌<◌, ◌+◌, List, [], ◌∷◌, ◌++◌, length, drop, ap, sym, subst, ◌∙◌, arith, length-append}
use Rattle.std.proofs.Math.Seq.{drop-append_seam}
use borrow.Author.Count.{below_more}

-- what holds at each border before `rest` and at `rest` holds at each border before what follows
pub borders_more : (P : List ℕ → Type 0) (text before rest : List ℕ) (c : ℕ) → text ≡ before ++ rest →
    ((k : ℕ) → k < length before → P (drop k text)) → P rest → (k : ℕ) → k < length (before ++ c ∷ []) → P (drop k text)
borders_more P text before rest c whole below here k less =
    let at_rest : P (drop (length before) text) = subst P (sym (ap (drop (length before)) whole ∙ drop-append_seam before rest)) here in
    let less_more : k < length before + 1 = omega (arith, length-append before (c ∷ [])) in
    below_more (λ i. P (drop i text)) (length before) below at_rest k less_more
