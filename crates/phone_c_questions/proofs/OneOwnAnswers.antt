-- What our own calls say of plain numbers is said of one number.
use Rattle.std.proofs.Common.{◌≡◌, ℕ, ◌==◌, not, List, [], Option, None, Some, IsSomeAnd, refl, ap, sym, ◌∙◌}
use Rattle.phone_values.specs.declared.kind.«Type».{«Type»}
use Rattle.phone_values.specs.declared.reading.Reading.{Reading}
use Rattle.phone_records.specs.declared.loader.Metadata.{Metadata}
use Rattle.phone_further.specs.Answers.{reaches_from_abroad}
use Rattle.phone_further.specs.Costs.{known_cost}
use Rattle.phone_further.specs.Matches.{match_numbers}
use Rattle.phone_further.specs.Possible.{possibility_of}
use Rattle.phone_c_base.proofs.OneAnswers.{one_number}
use Rattle.phone_c_base.specs.Kinds.{kind_of}
use Rattle.phone_c_base.specs.Numbers.{HasNumbers, IsNumber}
use Rattle.phone_c_base.specs.ShortNumbers.{cost_number, flag}
use Rattle.phone_c_base.specs.declared.number.Number as plain
use Rattle.phone_c_base.specs.declared.number.Part.{Part}
use Rattle.phone_c_questions.specs.Matches.{match_number}
use Rattle.phone_c_questions.specs.Numbers.{validation_number}
use Rattle.phone_c_questions.specs.Matches.{AreOwnMatch}
use Rattle.phone_c_questions.specs.Own.{IsKnownCost, IsOwnMobileText, IsPossibilityOf, IsReach, own_mobile_text}

-- a number without its texts
abbrev bare : Reading → Reading
bare n = record n { extension = None; carrier = None }

-- plain numbers without texts
abbrev nowhere : Part
nowhere = record { start = 0; len = 0; is_there = 0 }

abbrev alone : plain.Number → plain.Number
alone x = record x { extension = nowhere; carrier = nowhere }

is_alone : (x : plain.Number) (n : Reading) → HasNumbers x n → IsNumber (alone x) [] (bare n)
is_alone x n h = record {
  numbers = record { code = h.code; source = h.source; zeros = h.zeros; value = h.value; held = h.held };
  extension = refl;
  carrier = refl;
}

-- plain numbers are those of one number, its texts aside
same_bare : (x : plain.Number) (m n : Reading) → HasNumbers x m → HasNumbers x n → bare m ≡ bare n
same_bare x m n h g = one_number (alone x) [] (bare m) (bare n) (is_alone x m h) (is_alone x n g)

-- so what is told of a number without its texts is one
one_of : {A : Type 0} (f : Reading → A) (x : plain.Number) (a b : A) →
    ((n : Reading) → f n ≡ f (bare n)) → (n : Reading) × HasNumbers x n × (a ≡ f n) →
    (n : Reading) × HasNumbers x n × (b ≡ f n) → a ≡ b
one_of f x a b by_bare h g =
    h.2 ∙ by_bare h.0 ∙ ap f (same_bare x h.0 g.0 h.1 g.1) ∙ sym (by_bare g.0) ∙ sym g.2

module _ (db : List Metadata) where
  pub one_mobile : (id : List ℕ) (symbols : ℕ) (x : plain.Number) (bytes t u : List ℕ) →
      IsOwnMobileText db id symbols x bytes t → IsOwnMobileText db id symbols x bytes u → t ≡ u
  one_mobile id symbols x bytes t u h g =
      h.2 ∙ ap (own_mobile_text db id symbols) (one_number x bytes h.0 g.0 h.1 g.1) ∙ sym g.2

  pub one_reach : (x : plain.Number) (j k : ℕ) → IsReach db x j → IsReach db x k → j ≡ k
  one_reach x j k = one_of (λ n. flag (reaches_from_abroad db n)) x j k (λ n. refl)

  pub one_cost : (short : List Metadata) (x : plain.Number) (j k : ℕ) → IsKnownCost db short x j →
      IsKnownCost db short x k → j ≡ k
  one_cost short x j k = one_of (λ n. cost_number (known_cost db short n)) x j k (λ n. refl)

  pub one_possibility : (kind : ℕ) (x : plain.Number) (j k : ℕ) → IsPossibilityOf db kind x j →
      IsPossibilityOf db kind x k → j ≡ k
  one_possibility kind x j k = at (kind_of kind)
    where
      IsTold : Option «Type» → ℕ → Type 0
      IsTold o told = IsSomeAnd o (λ k. (n : Reading) × HasNumbers x n ×
          (told ≡ validation_number (possibility_of db k n)))

      at : (o : Option «Type») → IsTold o j → IsTold o k → j ≡ k
      at None h g = absurd h
      at (Some it) h g =
          one_of (λ n. validation_number (possibility_of db it n)) x j k (λ n. refl) h g

pub one_alike : (x : plain.Number) (first : List ℕ) (y : plain.Number) (second : List ℕ) (j k : ℕ) →
    AreOwnMatch x first y second j → AreOwnMatch x first y second k → j ≡ k
one_alike x first y second j k h g =
    let one = one_number x first h.0 g.0 h.2 g.2 in
    let two = one_number y second h.1 g.1 h.3 g.3 in
    h.4 ∙ ap (λ n. match_number (match_numbers n h.1)) one
    ∙ ap (λ n. match_number (match_numbers g.0 n)) two ∙ sym g.4
