-- What is left of separators once each run of them is a hyphen.
use Rattle.std.proofs.Common.{◌≡◌, ℕ, ◌==◌, ◌||◌, not, Bool, true, false, if◌then◌else◌, List, [], ◌∷◌, ◌++◌, drop, get_or, refl, ap, sym, ◌∙◌, true≢false}
use Rattle.std.proofs.lemmas.Bool.{and_from}
use Rattle.std.specs.List.{list_all}
use Rattle.phone_chars.specs.Characters.{is_separator}
use Rattle.phone_parts.specs.Texts.{begins}
use Rattle.phone_print.specs.Texts.{hyphenated}

-- what a first character gives, by what it is and by what follows it
abbrev put_by : Bool → Bool → ℕ → List ℕ → List ℕ
put_by apart more c cs = if apart then (if more then cs else 45 ∷ cs) else c ∷ cs

-- no separator is left but the hyphen
pub hyphens_alone : (t : List ℕ) → list_all (λ c. not (is_separator c) || (c == 45)) (hyphenated t) ≡ true
hyphens_alone [] = refl
hyphens_alone (c ∷ cs) = at (is_separator c) refl (begins is_separator cs) (hyphens_alone cs)
  where
    at : (b : Bool) → is_separator c ≡ b → (more : Bool) → list_all (λ x. not (is_separator x) || (x == 45)) (hyphenated cs) ≡ true →
        list_all (λ x. not (is_separator x) || (x == 45)) (put_by b more c (hyphenated cs)) ≡ true
    at true e true rest = rest
    at true e false rest = rest
    at false e more rest = and_from (not (is_separator c) || (c == 45)) _ (ap (λ b. not b || (c == 45)) e) rest

-- a hyphen is a separator
hyphen_no_other : (c : ℕ) → is_separator c ≡ false → c ≡ 45 → ⊥
hyphen_no_other c e same = true≢false (sym (ap is_separator same) ∙ e)

-- where a hyphen comes first, a separator did
first_hyphen : (cs w : List ℕ) → hyphenated cs ≡ 45 ∷ w → begins is_separator cs ≡ true
first_hyphen [] w e = cc
first_hyphen (c ∷ cs) w e = at (is_separator c) refl e
  where
    at : (b : Bool) → is_separator c ≡ b → put_by b (begins is_separator cs) c (hyphenated cs) ≡ 45 ∷ w → is_separator c ≡ true
    at true f g = f
    at false f g = absurd (hyphen_no_other c f (ap (λ l. get_or l 0 0) g))

-- no two hyphens stand side by side
pub hyphens_apart : (t v w : List ℕ) → ¬ (hyphenated t ≡ v ++ 45 ∷ 45 ∷ w)
hyphens_apart [] [] w e = cc
hyphens_apart [] (x ∷ v) w e = cc
hyphens_apart (c ∷ cs) v w e = at (λ u. hyphens_apart cs u w) (is_separator c) refl (begins is_separator cs) refl v e
  where
    at : ((u : List ℕ) → ¬ (hyphenated cs ≡ u ++ 45 ∷ 45 ∷ w)) → (b : Bool) → is_separator c ≡ b → (more : Bool) → begins is_separator cs ≡ more →
        (u : List ℕ) → ¬ (put_by b more c (hyphenated cs) ≡ u ++ 45 ∷ 45 ∷ w)
    at rest true f true g u h = rest u h
    at rest true f false g [] h = true≢false (sym (first_hyphen cs w (ap (drop 1) h)) ∙ g)
    at rest true f false g (x ∷ u) h = rest u (ap (drop 1) h)
    at rest false f more g [] h = hyphen_no_other c f (ap (λ l. get_or l 0 0) h)
    at rest false f more g (x ∷ u) h = rest u (ap (drop 1) h)
