-- A text whose front has letters.
use Rattle.std.proofs.Common.{◌≡◌, ℕ, ◌≤◌, nat_le, true, List, Option, count_by, leb-true, subst, sym, ap, ◌∙◌}
use Rattle.std.proofs.lemmas.Bool.{le-leb}
use Rattle.phone_chars.specs.Characters.{is_alpha}
use Rattle.phone_library_text.specs.Viable.{HasNumber}
use Rattle.phone_library_text.proofs.ExtensionOnes.{numbers_same}
use Rattle.phone_questions.specs.Letters.{HasLetteredFront}

module _ (t front : List ℕ) (extension : Option (List ℕ)) (k : ℕ) (number : HasNumber t front extension) (counted : k ≡ count_by is_alpha front) where
  pub lettered : nat_le 3 k ≡ true → HasLetteredFront t
  lettered h = record { front = front; extension = extension; number = number; letters = subst (λ n. 3 ≤ n) counted (leb-true 3 k h) }

  pub lettered_back : HasLetteredFront t → nat_le 3 k ≡ true
  lettered_back h =
      let same : h.front ≡ front = (numbers_same t h.front front h.extension extension h.number number).0 in
      le-leb 3 k (subst (λ n. 3 ≤ n) (ap (count_by is_alpha) same ∙ sym counted) h.letters)
