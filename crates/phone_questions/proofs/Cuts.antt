-- The loop that cuts digits off a number.
use Rattle.std.proofs.Common.{◌≡◌, ℕ, zero, suc, ◌+◌, ◌-◌, ◌<◌, Bool, true, false, if◌then◌else◌, List, [], ◌∷◌, Option, None, Some, refl, ap, sym, ◌∙◌, arith}
use Rattle.std.specs.List.{find}
use Rattle.phone_values.specs.declared.reading.Reading.{Reading}
use Rattle.phone_library.specs.Facts.{is_valid_number}
use Rattle.phone_records.specs.declared.loader.Metadata.{Metadata}
use Rattle.phone_values.specs.Numbers.{National}
use Rattle.phone_questions.specs.Truncation.{cut, cuts, is_left, shortened, with_national}
use Rattle.phone_questions.specs.declared.truncation.Left.{Left}
use Rattle.phone_questions.specs.declared.truncation.Left.TheVariants as left

-- what is left, by its two tests
abbrev pub left_by : Bool → Bool → Left
left_by some valid = if some then (if valid then left.Valid else left.Invalid) else left.Nothing

-- the first valid cut: none, this one, or one of the others
abbrev pub first_by : Left → Reading → Option Reading → Option Reading
first_by left.Nothing n others = None
first_by left.Valid n others = Some n
first_by left.Invalid n others = others

module _ (db : List Metadata) where
  by_tests : (some valid : Bool) (n : Reading) (others : List Reading) → is_valid_number db n ≡ valid →
      find (is_valid_number db) (if some then n ∷ others else []) ≡ first_by (left_by some valid) n (find (is_valid_number db) others)
  by_tests false valid n others e = refl
  by_tests true true n others e = rw e refl
  by_tests true false n others e = rw e refl

  find-cuts : (most : ℕ) (n : Reading) →
      find (is_valid_number db) (cuts db (suc most) n) ≡
      first_by (left_by (is_left db (cut n)) (is_valid_number db (cut n))) (cut n) (find (is_valid_number db) (cuts db most (cut n)))
  unfolding cuts
  find-cuts most n = by_tests (is_left db (cut n)) (is_valid_number db (cut n)) (cut n) (cuts db most (cut n)) refl

  none_left : (n : Reading) → find (is_valid_number db) (cuts db 0 n) ≡ None
  unfolding cuts
  none_left n = refl

  module _ (n : Reading) where
    -- the first valid one of what is left, where a national number is left
    abbrev pub first_of_cuts : ℕ → National → Option Reading
    first_of_cuts most national = find (is_valid_number db) (cuts db most (with_national n national))

    -- what one turn of the loop tells
    pub turn : (national next : National) (i : ℕ) (l : Left) (o : Option Reading) → i < 17 → next ≡ shortened national →
        l ≡ left_by (is_left db (with_national n next)) (is_valid_number db (with_national n next)) →
        o ≡ first_of_cuts (17 - i) national → o ≡ first_by l (with_national n next) (first_of_cuts (17 - (i + 1)) next)
    turn national next i l o small is told before =
        let k = 17 - (i + 1) in
        let e : 17 - i ≡ suc k = omega (arith, small) in
        let after = λ (x : National). first_by (left_by (is_left db (with_national n x)) (is_valid_number db (with_national n x))) (with_national n x) (first_of_cuts k x) in
        before ∙ ap (λ m. first_of_cuts m national) e ∙ find-cuts k (with_national n national)
        ∙ ap after (sym is) ∙ ap (λ l. first_by l (with_national n next) (first_of_cuts k next)) (sym told)

    -- after the last turn nothing is left
    pub ended : (national : National) (i : ℕ) (o : Option Reading) → ¬ (i < 17) → o ≡ first_of_cuts (17 - i) national → o ≡ None
    ended national i o large before =
        let e : 17 - i ≡ 0 = omega (arith, large) in
        before ∙ ap (λ m. first_of_cuts m national) e ∙ none_left (with_national n national)
