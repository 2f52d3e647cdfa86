-- Templates whose groups are named by a dollar sign and one digit.
use Rattle.std.proofs.Common.{◌≡◌, ℕ, ◌++◌, Bool, true, false, if◌then◌else◌, List, [], ◌∷◌, chars, append-nil, ap, sym, ◌∙◌}
use Rattle.std.proofs.lemmas.Str.{chars-nil}
use Rattle.phone_further.specs.OwnLayouts.{braced, in_braces, literal, names_group}

module _ (c : ℕ) (t : List ℕ) where
  empty_behind : chars t ≡ [] → braced (c ∷ chars t) ≡ literal c ++ braced (chars t)
  empty_behind e = ap (λ s. braced (c ∷ s)) e ∙ sym (append-nil (literal c)) ∙ ap (λ s. literal c ++ braced s) (sym e)

  -- nothing stands behind
  pub none_behind : t ≡ [] → braced (c ∷ chars t) ≡ literal c ++ braced (chars t)
  none_behind e = empty_behind (ap chars e ∙ chars-nil)

  abbrev named : ℕ → List ℕ → Bool → List ℕ
  named d rest b = if b then in_braces d ++ braced rest else literal c ++ braced (d ∷ rest)

  -- another character than a digit, or behind another than a dollar sign
  pub not_named : (d : ℕ) (rest : List ℕ) → chars t ≡ d ∷ rest → names_group c d ≡ false → braced (c ∷ chars t) ≡ literal c ++ braced (chars t)
  not_named d rest e f = ap (λ s. braced (c ∷ s)) e ∙ ap (named d rest) f ∙ ap (λ s. literal c ++ braced s) (sym e)

  -- a digit behind a dollar sign
  pub group_named : (d : ℕ) (rest : List ℕ) → chars t ≡ d ∷ rest → names_group c d ≡ true → braced (c ∷ chars t) ≡ in_braces d ++ braced rest
  group_named d rest e f = ap (λ s. braced (c ∷ s)) e ∙ ap (named d rest) f

pub ruleset template_steps = (none_behind, not_named, group_named)
