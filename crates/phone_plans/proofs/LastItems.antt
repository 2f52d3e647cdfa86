-- What stands at the last of some places.
use Rattle.std.proofs.Common.{◌≡◌, ℕ, Bool, true, false, cond, ◌&&◌, List, [], ◌∷◌, ◌++◌, map, filter, reverse, Option, None, Some, refl, ap, ap₂, sym, ◌∙◌}
use Rattle.std.proofs.lemmas.List.{map-append, reverse-append}
use Rattle.std.proofs.lemmas.List.Elements.{filter_map-append, filter-append}
use Rattle.std.proofs.lemmas.List.Folds.{find-append}
use Rattle.std.specs.List.{cons_option, filter_map, find}

-- what one more place at the end gives
pub filter_map-last : {Y E : Type 0} (at : ℕ → Option Y) (place : E → ℕ) (es others : List E) (e : E) → es ≡ others ++ e ∷ [] →
    filter_map at (map place es) ≡ filter_map at (map place others) ++ cons_option (at (place e)) []
filter_map-last at place es others e is =
    ap (λ es. filter_map at (map place es)) is
    ∙ ap (filter_map at) (map-append place others (e ∷ []))
    ∙ filter_map-append at (map place others) (place e ∷ [])

-- the last that passes, by what one more item at the end is
pub find-reverse-last : {X : Type 0} (p : X → Bool) (all others : List X) (x : X) (b : Bool) → all ≡ others ++ x ∷ [] → b ≡ p x →
    find p (reverse all) ≡ cond b (Some x) (find p (reverse others))
find-reverse-last p all others x b is asked =
    ap (λ xs. find p (reverse xs)) is
    ∙ ap (find p) (reverse-append others (x ∷ []))
    ∙ ap (λ b. cond b (Some x) (find p (reverse others))) (sym asked)
