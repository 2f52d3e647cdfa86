use Rattle.std.proofs.Common.{◌≡◌, ℕ, List, [], ◌∷◌, chars, arith, refl, ap, ◌∙◌}
use Rattle.std.proofs.lemmas.Str.{chars-nil}
use Rattle.phone_typed.specs.Carets.{place_of}
use Rattle.phone_typed.proofs.caret.place_of.Goals as goal

-- in no text no key is passed
nowhere : (keys : List ℕ) → place_of keys [] ≡ 0
nowhere [] = refl
nowhere (k ∷ keys) = refl

pub returns-in_default-split_first : goal.returns-in_default-split_first
returns-in_default-split_first c =
    let left = c.loop-key.left.now in
    let none : place_of left (chars c.loop-key.rest.now) ≡ 0 =
    ap (λ t. place_of left (chars t)) c.in_default-split_first.ensures.cut ∙ ap (place_of left) chars-nil ∙ nowhere left in
    let kept = c.loop-key.invariant.2 in
    omega (arith, none, kept)
