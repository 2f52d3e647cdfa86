-- What is said of plain numbers is said of one number.
use Rattle.std.proofs.Common.{◌≡◌, ℕ, List, [], Option, None, Some, IsSomeAnd, refl, ap, sym, subst, ◌∙◌}
use Rattle.phone_values.specs.declared.kind.«Type».{«Type»}
use Rattle.phone_values.specs.declared.reading.Reading.{Reading}
use Rattle.phone_records.specs.declared.loader.Metadata.{Metadata}
use Rattle.phone_questions.specs.Belonging.{is_valid_for}
use Rattle.phone_questions.specs.Matches.{match_of}
use Rattle.phone_questions.specs.Possible.{possibility_as}
use Rattle.phone_questions.specs.Truncation.{truncated}
use Rattle.phone_c_base.proofs.OneAnswers.{one_number}
use Rattle.phone_c_base.specs.Kinds.{kind_of}
use Rattle.phone_c_base.specs.Numbers.{HasNumbers, IsNumber}
use Rattle.phone_c_base.specs.ShortNumbers.{flag}
use Rattle.phone_c_base.specs.declared.number.Number as plain
use Rattle.phone_c_base.specs.declared.number.Part.{Part}
use Rattle.phone_c_questions.specs.Carriers.{IsNationalWith, national_text}
use Rattle.phone_c_questions.specs.Matches.{AreMatch, match_number}
use Rattle.phone_c_questions.specs.Numbers.{AreNumberFacts, IsPossibilityAs, IsValidityFor}
use Rattle.phone_c_questions.specs.Numbers.{number_facts, validation_number}
use Rattle.phone_c_questions.specs.Truncation.{IsLeft, IsTruncated}
use Rattle.phone_c_questions.specs.declared.numbers.NumberFacts.{NumberFacts}

-- a number without its texts
abbrev bare : Reading → Reading
bare n = record n { extension = None; carrier = None }

-- plain numbers without texts
abbrev nowhere : Part
nowhere = record { start = 0; len = 0; is_there = 0 }

abbrev alone : plain.Number → plain.Number
alone x = record x { extension = nowhere; carrier = nowhere }

is_alone : (x : plain.Number) (n : Reading) → HasNumbers x n → IsNumber (alone x) [] (bare n)
is_alone x n h = record {
  numbers = record { code = h.code; source = h.source; zeros = h.zeros; value = h.value; held = h.held };
  extension = refl;
  carrier = refl;
}

-- plain numbers are those of one number, its texts aside
same_bare : (x : plain.Number) (m n : Reading) → HasNumbers x m → HasNumbers x n → bare m ≡ bare n
same_bare x m n h g = one_number (alone x) [] (bare m) (bare n) (is_alone x m h) (is_alone x n g)

-- so what is told of a number without its texts is one
one_of : {A : Type 0} (f : Reading → A) (x : plain.Number) (a b : A) →
    ((n : Reading) → f n ≡ f (bare n)) → (n : Reading) × HasNumbers x n × (a ≡ f n) →
    (n : Reading) × HasNumbers x n × (b ≡ f n) → a ≡ b
one_of f x a b by_bare h g =
    h.2 ∙ by_bare h.0 ∙ ap f (same_bare x h.0 g.0 h.1 g.1) ∙ sym (by_bare g.0) ∙ sym g.2

module _ (db : List Metadata) where
  pub one_facts : (x : plain.Number) (a b : NumberFacts) → AreNumberFacts db x a →
      AreNumberFacts db x b → a ≡ b
  one_facts x a b = one_of (number_facts db) x a b (λ n. refl)

  pub one_validity : (id : List ℕ) (x : plain.Number) (j k : ℕ) → IsValidityFor db id x j →
      IsValidityFor db id x k → j ≡ k
  one_validity id x j k = one_of (λ n. flag (is_valid_for db id n)) x j k (λ n. refl)

  pub one_possibility : (kind : ℕ) (x : plain.Number) (j k : ℕ) → IsPossibilityAs db kind x j →
      IsPossibilityAs db kind x k → j ≡ k
  one_possibility kind x j k = at (kind_of kind)
    where
      IsTold : Option «Type» → ℕ → Type 0
      IsTold o told = IsSomeAnd o (λ k. (n : Reading) × HasNumbers x n ×
          (told ≡ validation_number (possibility_as db k n)))

      at : (o : Option «Type») → IsTold o j → IsTold o k → j ≡ k
      at None h g = absurd h
      at (Some it) h g =
          one_of (λ n. validation_number (possibility_as db it n)) x j k (λ n. refl) h g

-- plain numbers of their parts
abbrev number_by : (value code source zeros : ℕ) (extension carrier : Part) → plain.Number
number_by value code source zeros extension carrier = record {
  value = value;
  extension = extension;
  carrier = carrier;
  code = code;
  source = source;
  zeros = zeros;
}

by_parts : (u v c d s t y z : ℕ) (e f g h : Part) → u ≡ v → c ≡ d → s ≡ t → y ≡ z → e ≡ f →
    g ≡ h → number_by u c s y e g ≡ number_by v d t z f h
by_parts u v c d s t y z e f g h value code source zeros extension carrier = cc

-- what is left of plain numbers is one
one_rest : (x y z : plain.Number) (j k : ℕ) (o : Option Reading) → IsLeft x o y j →
    IsLeft x o z k → (j ≡ k) × (y ≡ z)
one_rest x y z j k None h g = (h.0 ∙ sym g.0, h.1 ∙ sym g.1)
one_rest x y z j k (Some t) h g =
    let a = h.1 in
    let b = g.1 in (
      h.0 ∙ sym g.0,
      by_parts y.value z.value y.code z.code y.source z.source y.zeros z.zeros y.extension
          z.extension y.carrier z.carrier (sym a.value ∙ b.value) (sym a.code ∙ b.code)
          (sym a.source ∙ b.source) (sym a.zeros ∙ b.zeros) (h.2 ∙ sym g.2) (h.3 ∙ sym g.3),
    )

-- a number without texts is told by its plain numbers
one_whole : (x : plain.Number) (m n : Reading) → HasNumbers x m → HasNumbers x n →
    m.extension ≡ None → m.carrier ≡ None → n.extension ≡ None → n.carrier ≡ None → m ≡ n
one_whole x m n h g e c f d =
    one_number (alone x) [] m n (whole m h e c) (whole n g f d)
  where
    whole : (r : Reading) → HasNumbers x r → r.extension ≡ None → r.carrier ≡ None →
        IsNumber (alone x) [] r
    whole r h e c = record {
      numbers = record { code = h.code; source = h.source; zeros = h.zeros; value = h.value; held = h.held };
      extension = rw e refl;
      carrier = rw c refl;
    }

pub one_left : (db : List Metadata) (x y z : plain.Number) (j k : ℕ) → IsTruncated db x y j →
    IsTruncated db x z k → (j ≡ k) × (y ≡ z)
one_left db x y z j k h g =
    let same = one_whole x h.0 g.0 h.1 g.1 h.2 h.3 g.2 g.3 in
    let IsSo = λ (n : Reading). IsLeft x (truncated db n) y j in
    one_rest x y z j k (truncated db g.0) (subst IsSo same h.4) g.4

pub one_alike : (x : plain.Number) (first : List ℕ) (y : plain.Number) (second : List ℕ) (j k : ℕ) →
    AreMatch x first y second j → AreMatch x first y second k → j ≡ k
one_alike x first y second j k h g =
    let one = one_number x first h.0 g.0 h.2 g.2 in
    let two = one_number y second h.1 g.1 h.3 g.3 in
    h.4 ∙ ap (λ n. match_number (match_of n h.1)) one
    ∙ ap (λ n. match_number (match_of g.0 n)) two ∙ sym g.4

pub one_national : (db : List Metadata) (x : plain.Number) (bytes carrier : List ℕ)
    (prefers_own : ℕ) (a b : List ℕ) → IsNationalWith db x bytes carrier prefers_own a →
    IsNationalWith db x bytes carrier prefers_own b → a ≡ b
one_national db x bytes carrier prefers_own a b h g =
    h.2 ∙ ap (national_text db carrier prefers_own) (one_number x bytes h.0 g.0 h.1 g.1) ∙ sym g.2
