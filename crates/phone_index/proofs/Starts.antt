-- Where the entries of each code start, noted code by code.
use Rattle.std.proofs.Common.{◌≡◌, ◌<◌, ◌≤◌, ℕ, List, [], ◌∷◌, ◌++◌, length, length-append, get_or, ⊎_elim, sym, subst, arith}
use Rattle.std.proofs.lemmas.Bool.{cases_lt}
use Rattle.std.proofs.lemmas.List.{get_or_append_left, get_or_push}
use Rattle.phone_index.specs.Orders.{AreStarts, IsStart}
use Rattle.phone_index.specs.declared.grouped.Coded.{Coded}

-- the start of one code more
pub AreStarts-push : (es : List Coded) (starts : List ℕ) (code i : ℕ) → AreStarts es starts → length starts ≡ code → IsStart es code i →
    AreStarts es (starts ++ i ∷ [])
AreStarts-push es starts code i are many is k inside =
    ⊎_elim
    (λ (less : k < code). subst (IsStart es k) (sym (get_or_append_left starts (i ∷ []) 0 k (omega (arith, less, many)))) (are k (omega (arith, less, many))))
    (λ (more : code ≤ k).
    let same : k ≡ code = omega (arith, more, many, inside, length-append starts (i ∷ [])) in
    subst (λ j. IsStart es j (get_or (starts ++ i ∷ []) j 0)) (sym same) (subst (IsStart es code) (sym (get_or_push starts i 0 code many)) is))
    (cases_lt k code)
