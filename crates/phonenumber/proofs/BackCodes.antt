-- The code that a number is printed with is the one that its text is read with.
use Rattle.std.proofs.Common.{◌≡◌, ◌≢◌, inl, inr, ℕ, zero, suc, ◌<◌, ◌≤◌, ◌^◌, ◌==◌, not, Bool, true, false, List, [], ◌∷◌, ◌++◌, codes, length, take, get_or, Option, Some, None, refl, ap, ap₂, sym, ◌∙◌, arith, ne_eqb, eqb-true, true≢false, length-append}
use Rattle.std.proofs.Math.Seq.{take-append_seam}
use Rattle.std.proofs.lemmas.Bool.{and_from, and_parts, cases_eq, cases_lt, cond-false, cond-true, false_from_ne_true, le-leb, not-true, or_cases}
use Rattle.std.proofs.lemmas.Fmt.{decimal_is_IsNumeral, decimal_nonempty, digits_decimal, first_decimal, length-decimal-le}
use Rattle.std.proofs.lemmas.List.{get_or_append_left, get_or-take, take-append-le}
use Rattle.std.proofs.lemmas.Slice.Eq.{bytes_eq-Decides}
use Rattle.std.proofs.lemmas.Str.Parse.{IsNumeralModel, digit_at, numerals_by_value, tells_all_ascii_digits, without_leading_plus_none}
use Rattle.std.specs.Fmt.{decimal}
use Rattle.std.specs.List.{list_all, list_any}
use Rattle.std.specs.Option.{option_or}
use Rattle.std.specs.Str.{all_ascii_digits, bytes_eq}
use Rattle.std.specs.Str.Parse.{digits_value, without_leading_plus}
use Rattle.phone_values.proofs.Digits.{number_some}
use Rattle.phone_values.specs.Numbers.{number_in}
use Rattle.phone_plans.specs.CodeLookUps.{begins, front_number, is_listed, is_prefix_free, listed_front, listed_if_some, shortest}
use Rattle.phone_territory.specs.Records.{code_of}
use Rattle.phone_plans.specs.Records.{has_code}
use Rattle.phone_records.specs.declared.loader.Metadata.{Metadata}
use Rattle.phone_read.proofs.ListedFronts.{shortest-front, shortest-listed}

own : IsNumeralModel (λ ds. all_ascii_digits ds ≡ true) (digits_value 10)
own = numerals_by_value _ tells_all_ascii_digits

-- of two texts that begin one text the shorter begins the longer
take_front : (xs ys s t : List ℕ) → xs ++ s ≡ ys ++ t → length xs ≤ length ys → take (length xs) ys ≡ xs
take_front xs ys s t e short =
    sym (take-append-le (length xs) ys t short) ∙ ap (take (length xs)) (sym e) ∙ take-append_seam xs s

-- where all pass one test and one passes another, one passes both
passes_both : {X : Type 0} (p q : X → Bool) (xs : List X) → list_all p xs ≡ true → list_any q xs ≡ true → (x : X) × (p x ≡ true) × (q x ≡ true)
passes_both p q [] all any = absurd (true≢false (sym any))
passes_both p q (x ∷ xs) all any =
    let both = and_parts (p x) (list_all p xs) all in
    elim (or_cases (q x) (list_any q xs) any) [
      | inl here ↦ (x, both.0, here)
      | inr there ↦ passes_both p q xs both.1 there
    ]

-- of two listed codes none begins the other, where the database is prefix-free
not_begins : (db : List Metadata) → is_prefix_free db ≡ true → (a b : ℕ) → is_listed a db ≡ true → is_listed b db ≡ true → begins a b ≡ false
not_begins db free a b has_a has_b =
    let m = passes_both (λ m. list_all (λ n. not (begins (code_of m) (code_of n))) db) (has_code a) db free has_a in
    let n = passes_both (λ n. not (begins (code_of m.0) (code_of n))) (has_code b) db m.1 has_b in
    let first : code_of m.0 ≡ a = eqb-true (code_of m.0) a m.2 in
    let second : code_of n.0 ≡ b = eqb-true (code_of n.0) b n.2 in
    sym (ap₂ begins first second) ∙ not-true (begins (code_of m.0) (code_of n.0)) n.1

begins_of : (a b : ℕ) → a ≢ b → take (length (decimal a)) (decimal b) ≡ decimal a → begins a b ≡ true
unfolding begins
begins_of a b other starts = and_from (not (a == b)) _ (ap not (ne_eqb a b other)) ((bytes_eq-Decides _ _).1 starts)

-- so of two listed codes that begin one text the shorter is the longer
same_by_length : (db : List Metadata) → is_prefix_free db ≡ true → (a b : ℕ) (s t : List ℕ) → is_listed a db ≡ true → is_listed b db ≡ true →
    decimal a ++ s ≡ decimal b ++ t → length (decimal a) ≤ length (decimal b) → a ≡ b
same_by_length db free a b s t has_a has_b e short = elim (cases_eq a b) [
  | inl same ↦ same
  | inr other ↦ absurd (true≢false (sym (begins_of a b other (take_front (decimal a) (decimal b) s t e short)) ∙ not_begins db free a b has_a has_b))
]

-- listed codes that begin one text are one
one_code : (db : List Metadata) → is_prefix_free db ≡ true → (a b : ℕ) (s t : List ℕ) → is_listed a db ≡ true → is_listed b db ≡ true →
    decimal a ++ s ≡ decimal b ++ t → a ≡ b
one_code db free a b s t has_a has_b e = elim (cases_lt (length (decimal a)) (length (decimal b))) [
  | inl less ↦ same_by_length db free a b s t has_a has_b e (omega (arith, less))
  | inr more ↦ sym (same_by_length db free b a t s has_b has_a (sym e) more)
]

-- where the first of three is absent, each is
none_given : (f : ℕ → Option ℕ) (a b c : Option ℕ) → f 1 ≡ a → f 2 ≡ b → f 3 ≡ c → option_or a (option_or b (option_or c None)) ≡ None →
    (k : ℕ) → 0 < k → k ≤ 3 → f k ≡ None
none_given f None None None fa fb fc e zero some few = absurd (omega (arith, some))
none_given f None None None fa fb fc e (suc zero) some few = fa
none_given f None None None fa fb fc e (suc (suc zero)) some few = fb
none_given f None None None fa fb fc e (suc (suc (suc zero))) some few = fc
none_given f None None None fa fb fc e (suc (suc (suc (suc k)))) some few = absurd (omega (arith, few))
none_given f (Some x) b c fa fb fc e k some few = cc
none_given f None (Some x) c fa fb fc e k some few = cc
none_given f None None (Some x) fa fb fc e k some few = cc

module _ (db : List Metadata) (code : ℕ) (after : List ℕ) (some : 1 ≤ code) (few : code ≤ 999) (listed : is_listed code db ≡ true) where
  abbrev digits : List ℕ
  digits = decimal code

  abbrev text : List ℕ
  text = digits ++ after

  fits : code < 2 ^ 64
  fits = omega (arith, few)

  front_is : take (length digits) text ≡ digits
  front_is = take-append_seam digits after

  written : front_number (length digits) text ≡ Some code
  written =
      let long : length digits ≤ length text = omega (arith, length-append digits after) in
      cond-true _ _ _ (and_from _ _ (le-leb (length digits) (length text) long) (ap all_ascii_digits front_is ∙ digits_decimal own code fits))
      ∙ ap (λ t. Some (digits_value 10 t)) front_is ∙ ap Some (decimal_is_IsNumeral code fits).1

  found : listed_front db text (length digits) ≡ Some code
  found = ap (λ o. listed_if_some o db) written ∙ cond-true _ _ _ listed

  no_zero : bytes_eq (take 1 text) (codes "0") ≡ false
  no_zero = false_from_ne_true _ (λ t.
      let zero_first : get_or text 0 0 ≡ 48 =
      sym (get_or-take 1 text 0 0 (omega arith)) ∙ ap (λ cs. get_or cs 0 0) ((bytes_eq-Decides (take 1 text) (codes "0")).0 t) in
      let nonempty : 0 < length digits = decimal_nonempty code fits in
      let same : get_or text 0 0 ≡ get_or digits 0 0 = get_or_append_left digits after 0 0 nonempty in
      absurd (omega (arith, first_decimal code (omega (arith, some)) fits, same, zero_first)))

  not_none : shortest db text ≡ None → ⊥
  not_none e =
      let none : listed_front db text (length digits) ≡ None =
      none_given (listed_front db text) (listed_front db text 1) (listed_front db text 2) (listed_front db text 3) refl refl refl
      (sym (cond-false _ _ _ no_zero) ∙ e) (length digits) (decimal_nonempty code fits) (length-decimal-le 3 code (omega arith) (omega (arith, few)) fits) in
      let apart : Some code ≡ None = sym found ∙ none in
      cc

  -- the printed code is the shortest listed front
  pub shortest-decimal : is_prefix_free db ≡ true → shortest db text ≡ Some code
  shortest-decimal free = at (shortest db text) refl
    where
      at : (o : Option ℕ) → shortest db text ≡ o → shortest db text ≡ Some code
      at None e = absurd (not_none e)
      at (Some x) e =
          let there = shortest-front db text x e in
          e ∙ ap Some (one_code db free x code there.0 after (shortest-listed db text x e) listed (sym there.1))

-- a number of so many bits is read from its decimal text
pub number_in-decimal : (k n : ℕ) → n < 2 ^ k → n < 2 ^ 64 → number_in k (decimal n) ≡ Some n
number_in-decimal k n below fits =
    let digits = decimal n in
    let numeral = decimal_is_IsNumeral n fits in
    let first = digit_at digits 0 numeral.0.1 numeral.0.0 in
    let plain : without_leading_plus digits ≡ digits = without_leading_plus_none digits (λ e. absurd (omega (arith, first.0, e))) in
    number_some k digits n (rw plain ((numeral.0, rw numeral.1 below), sym numeral.1))
