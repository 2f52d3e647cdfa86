-- Which texts are viable, computed on the definition.
use Rattle.std.proofs.Common.{◌≡◌, ⊎_elim, ℕ, false, List, length, sym, ◌∙◌, true≢false}
use Rattle.phone_chars.specs.Characters.{is_plus}
use Rattle.phone_chars.specs.Cuts.{after_front}
use Rattle.phone_chars.specs.Viable.{IsTwoDigits, IsSignedDigits, IsViable}
use Rattle.phone_chars.proofs.Signed.{number_walk, walk_of_signed}

-- a text of another length than two, along which no walk finds a number
pub not_viable : (t : List ℕ) → ¬ (length t ≡ 2) → number_walk 3 (after_front is_plus t) ≡ false → ¬ (IsViable t)
not_viable t not_two none h = ⊎_elim
    (λ (two : IsTwoDigits t). not_two two.two)
    (λ (signed : IsSignedDigits t). true≢false (sym (walk_of_signed t signed) ∙ none)) h
