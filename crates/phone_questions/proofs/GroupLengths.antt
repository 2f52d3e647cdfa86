-- The lengths of a text's groups.
use Rattle.std.proofs.Common.{◌≡◌, ℕ, ◌+◌, ◌≤◌, Bool, true, false, if◌then◌else◌, List, [], ◌∷◌, length, refl, arith}
use Rattle.phone_chars.specs.Characters.{is_digit}
use Rattle.phone_chars.specs.Cuts.{after_front, front}
use Rattle.phone_questions.specs.Groups.{after_group, first_group, is_between, second_group}

module _ (p : ℕ → Bool) where
  parts_by : (here : Bool) (c : ℕ) (cs : List ℕ) → length (front p cs) + length (after_front p cs) ≡ length cs →
      length (if here then c ∷ front p cs else []) + length (if here then after_front p cs else c ∷ cs) ≡ length (c ∷ cs)
  parts_by true c cs h = omega (arith, h)
  parts_by false c cs h = omega arith

  -- a front and what follows it are all
  parts : (t : List ℕ) → length (front p t) + length (after_front p t) ≡ length t
  parts [] = refl
  parts (c ∷ cs) = parts_by (p c) c cs (parts cs)

  after_within : (t : List ℕ) → length (after_front p t) ≤ length t
  after_within t = omega (arith, parts t)

  front_within : (t : List ℕ) → length (front p t) ≤ length t
  front_within t = omega (arith, parts t)

first_within : (t : List ℕ) → length (first_group t) ≤ length t
first_within t = omega (arith, front_within is_digit (after_front is_between t), after_within is_between t)

pub groups_within : (t : List ℕ) → length (first_group t) + length (second_group t) ≤ length t
groups_within t = omega (
  arith,
  parts is_digit (after_front is_between t),
  after_within is_between t,
  first_within (after_group t),
)
