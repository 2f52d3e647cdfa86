-- The area of a number, or the name of its country.
use Rattle.std.proofs.Common.{◌≡◌, ◌==◌, ℕ, Bool, true, false, cond, if◌then◌else◌, List, length, ap, sym, ◌∙◌}

module _ (area country : List ℕ) (empty : Bool) (is : empty ≡ (length area == 0)) where
  pub country_told : (text : List ℕ) → empty ≡ true → text ≡ country → text ≡ (if length area == 0 then country else area)
  country_told text t e = e ∙ sym (ap (λ v. cond v country area) (sym is ∙ t))

  pub area_told : empty ≡ false → area ≡ (if length area == 0 then country else area)
  area_told f = sym (ap (λ v. cond v country area) (sym is ∙ f))
