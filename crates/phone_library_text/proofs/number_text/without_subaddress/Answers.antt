use Rattle.std.proofs.Common.{◌≡◌, ◌⊎◌, inl, inr, codes, List, ℕ, [], ◌∷◌, Some, refl, ap, sym, ◌∙◌}
use Rattle.std.specs.Str.{chars}
use Rattle.phone_library_text.specs.NumberTexts.{before_place}
use Rattle.phone_library_text.specs.Places.{parted}
use Rattle.phone_library_text.proofs.Literals.{chars-subaddress}
use Rattle.phone_library_text.proofs.NumbersIn.{before_some, before_start}
use Rattle.phone_library_text.proofs.number_text.without_subaddress.Goals as goal

nil_or_not : (t : List ℕ) → (t ≡ []) ⊎ (¬ (t ≡ []))
nil_or_not [] = inl refl
nil_or_not (x ∷ t) = inr (λ e. cc)

pub returns-in-Some : goal.returns-in-Some
returns-in-Some c = at (nil_or_not front)
  where
    text : List ℕ
    text = chars c.args.text.now

    front : List ℕ
    front = chars c.in-Some.front.now

    place : parted (codes ";isub=") text ≡ Some (front, chars c.in-Some.field-0-1.now)
    place = ap (λ w. parted w text) (sym chars-subaddress) ∙ c.in-Some.ensures.parted

    at : (front ≡ []) ⊎ (¬ (front ≡ [])) → chars c.unless_empty.result.now ≡ before_place (parted (codes ";isub=") text) text
    at (inl e) = c.unless_empty.ensures.empty e ∙ sym (ap (λ p. before_place p text) place ∙ before_start front (chars c.in-Some.field-0-1.now) text e)
    at (inr some) = c.unless_empty.ensures.some some ∙ sym (ap (λ p. before_place p text) place ∙ before_some front (chars c.in-Some.field-0-1.now) text some)

pub returns-in-None : goal.returns-in-None
returns-in-None c =
    let text = chars c.args.text.now in
    sym (ap (λ p. before_place p text) (ap (λ w. parted w text) (sym chars-subaddress) ∙ c.in-None.ensures.parted))
