-- What is told is of a table.
use Rattle.std.proofs.Common.{◌≡◌, ◌<◌, ◌==◌, ◌&&◌, ◌⊎◌, inl, inr, not, ℕ, Bool, true, false, cond, List, [], length, Option, None, Some, refl, ap, sym, subst, arith}
use Rattle.std.specs.Prelude.{unwrap_or}
use Rattle.phone_languages.specs.Locales.{is_alone}
use Rattle.phone_languages.specs.Told.{IsTextIn, IsTold}
use Rattle.phone_prefixes.specs.Tables.{Entry}

not_alone : (p q : Bool) → (p && not q) ≡ true → q ≡ false
not_alone p false e = refl
not_alone true true e = cc
not_alone false true e = cc

nothing_there : {X : Type 0} (text : List ℕ) → text ≡ [] → 0 < length text → X
nothing_there text e some = let none = ap length e in absurd (omega (arith, none, some))

module _ (locale : List ℕ) (own english : Option (List Entry)) (digits text : List ℕ) (some : 0 < length text) where
  english_behind : (b : Option (List ℕ)) → is_alone locale ≡ false → IsTextIn english digits b → text ≡ unwrap_or b [] →
      (is_alone locale ≡ false) × IsTextIn english digits (Some text)
  english_behind None other is e = nothing_there text e some
  english_behind (Some u) other is e = (other, subst (λ t. IsTextIn english digits (Some t)) (sym e) is)

  by_text : (b : Option (List ℕ)) (t : List ℕ) (v : Bool) → (text ≡ t → IsTextIn own digits (Some text)) → IsTextIn english digits b →
      ((length t == 0) && not (is_alone locale)) ≡ v → text ≡ cond v (unwrap_or b []) t →
      IsTextIn own digits (Some text) ⊎ ((is_alone locale ≡ false) × IsTextIn english digits (Some text))
  by_text b t true from is v e = inr (english_behind b (not_alone (length t == 0) (is_alone locale) v) is e)
  by_text b t false from is v e = inl (from e)

pub told_from : (locale : List ℕ) (own english : Option (List Entry)) (digits text : List ℕ) → IsTold locale own english digits text → 0 < length text →
    IsTextIn own digits (Some text) ⊎ ((is_alone locale ≡ false) × IsTextIn english digits (Some text))
told_from locale own english digits text (None, b, x, y, e) some =
    by_text locale own english digits text some b [] (not (is_alone locale)) (λ f. nothing_there text f some) y refl e
told_from locale own english digits text (Some t, b, x, y, e) some =
    by_text locale own english digits text some b t ((length t == 0) && not (is_alone locale)) (λ f. subst (λ u. IsTextIn own digits (Some u)) (sym f) x) y refl e
