-- The verdict by two lists of lengths.
use Rattle.std.proofs.Common.{◌≡◌, ℕ, suc, ◌==◌, ◌&&◌, ◌||◌, nat_lt, Bool, List, [], ◌∷◌, ◌++◌, length, refl, ap, sym, ◌∙◌, arith, ne_eqb}
use Rattle.std.proofs.lemmas.List.{append-nil}
use Rattle.std.proofs.lemmas.List.Folds.{list_all-append, list_any-append}
use Rattle.std.specs.List.{list_all}
use Rattle.phone_values.specs.declared.validator.Validation.{Validation}
use Rattle.phone_questions.specs.Possible.{is_among, verdict_on, verdict_told}

-- two lists together are empty where both are
none_of_both : (ls ms : List ℕ) → (length (ls ++ ms) == 0) ≡ ((length ls == 0) && (length ms == 0))
none_of_both [] ms = refl
none_of_both (l ∷ ls) ms = ne_eqb (length (l ∷ (ls ++ ms))) 0 (omega arith) ∙ sym (ap (λ b. b && (length ms == 0)) (ne_eqb (length (l ∷ ls)) 0 (omega arith)))

-- the verdict by the tests of both lists is that by the lists, one after the other
pub on_both : (ls ms ks js : List ℕ) (n : ℕ) →
    verdict_told (is_among n ks || is_among n js)
    (((length ls == 0) && (length ms == 0)) || (is_among n ls || is_among n ms))
    (list_all (λ l. nat_lt n l) ls && list_all (λ l. nat_lt n l) ms)
    (list_all (λ l. nat_lt l n) ls && list_all (λ l. nat_lt l n) ms) ≡ verdict_on (ls ++ (ms ++ [])) (ks ++ (js ++ [])) n
on_both ls ms ks js n = sym
    (rw (append-nil ms) (rw (append-nil js)
    (rw (list_any-append (λ l. l == n) ks js) (rw (list_any-append (λ l. l == n) ls ms)
    (rw (list_all-append (λ l. nat_lt n l) ls ms) (rw (list_all-append (λ l. nat_lt l n) ls ms)
    (rw (none_of_both ls ms) refl)))))))
