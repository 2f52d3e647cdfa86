-- The files of names, as one part after the other is taken off a locale.
use Rattle.std.proofs.Common.{◌≡◌, ℕ, List, [], ◌∷◌, ◌++◌, map, take, Bor, refl, ap, sym, subst, ◌∙◌}
use Rattle.std.proofs.lemmas.List.{append-nil}
use Rattle.phone_languages.specs.Locales.{AreNameFiles, IsLastHyphen, Lacks}
use Rattle.phone_languages.specs.Locales.AreNameFiles.{one, more}

-- the names of files that are lent
abbrev pub lent : List (Bor (List ℕ)) → List (List ℕ)
lent fs = map (λ f. f.now) fs

lent-next : (fs : List (Bor (List ℕ))) (f : Bor (List ℕ)) (rest : List (List ℕ)) → lent (fs ++ f ∷ []) ++ rest ≡ lent fs ++ f.now ∷ rest
lent-next [] f rest = refl
lent-next (g ∷ gs) f rest = ap (λ t. g.now ∷ t) (lent-next gs f rest)

-- what stands behind the files so far is that of the rest of the locale
abbrev pub AreSoFar : (locale rest : List ℕ) → List (Bor (List ℕ)) → Type 0
AreSoFar locale rest fs = (files : List (List ℕ)) → AreNameFiles rest (rest ∷ files) → AreNameFiles locale (lent fs ++ files)

pub so_far_next : (locale rest : List ℕ) (fs gs : List (Bor (List ℕ))) (f : Bor (List ℕ)) → AreSoFar locale rest fs →
    ((at : ℕ) × IsLastHyphen rest at × (f.now ≡ take at rest)) → gs ≡ fs ++ f ∷ [] → AreSoFar locale f.now gs
so_far_next locale rest fs gs f before (at, hyphen, is) pushed files h =
    let longer = more rest at (f.now ∷ files) hyphen (subst (λ t. AreNameFiles t (f.now ∷ files)) is h) in
    subst (AreNameFiles locale) (sym (ap (λ hs. lent hs ++ files) pushed ∙ lent-next fs f files)) (before (f.now ∷ files) longer)

pub so_far_all : (locale rest : List ℕ) (fs : List (Bor (List ℕ))) → AreSoFar locale rest fs → Lacks 45 rest → AreNameFiles locale (lent fs)
so_far_all locale rest fs before lacks = subst (AreNameFiles locale) (append-nil (lent fs)) (before [] (one rest lacks))
