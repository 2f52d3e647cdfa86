-- What holds of every list of words.
use Rattle.std.proofs.Common.{◌≡◌, ◌⊎◌, ◌∙◌, ℕ, List, Result, Ok, Err, inl, inr, refl, subst, sym}
use Rattle.phone_words.specs.Calls.{IsCall, IsNoCall, Meaning, Says, meaning}
use Rattle.phone_words.specs.Parts.{Fault}
use Rattle.phone_words.specs.declared.call.Call.{Call}
use Rattle.phone_words.specs.declared.parts.WordError.{WordError}

-- what is in two results that are equal
ok_one : {A E : Type 0} {a b : A} → ◌≡◌ {A = Result A E} (Ok a) (Ok b) → a ≡ b
ok_one e = cc e

ok_or_err : {A E : Type 0} {a : A} {f : E} → ¬ (◌≡◌ {A = Result A E} (Ok a) (Err f))
ok_or_err e = cc e

pub at_most_one : (words : List (List ℕ)) (c d : Call) → (one : IsCall words c) → IsCall words d →
    Says one.meant d
at_most_one words c d a b = subst (λ m. Says m d) (ok_one (sym b.means ∙ a.means)) b.says

pub not_both : (words : List (List ℕ)) (c : Call) (e : WordError) → IsCall words c →
    ¬ (IsNoCall words e)
not_both words c e a n = ok_or_err (sym a.means ∙ n)

of_result : {A E : Type 0} (r s : Result A E) → r ≡ s →
    ((x : A) × (r ≡ Ok x)) ⊎ ((f : E) × (r ≡ Err f))
of_result r (Ok x) e = inl (x, e)
of_result r (Err f) e = inr (f, e)

pub one_or_other : (words : List (List ℕ)) →
    ((m : Meaning) × (meaning words ≡ Ok m)) ⊎ ((f : Fault) × (meaning words ≡ Err f))
one_or_other words = of_result (meaning words) (meaning words) refl
