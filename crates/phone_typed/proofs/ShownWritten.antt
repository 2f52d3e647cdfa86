-- What is shown is written as the keys are.
use Rattle.std.proofs.Common.{◌≡◌, ℕ, ◌≤◌, ◌==◌, ◌||◌, Bool, true, false, cond, List, [], ◌∷◌, ◌++◌, length, take, drop, filter, Option, None, Some, Result, Ok, refl, ap, sym, subst, ◌∙◌, arith}
use Rattle.std.proofs.lemmas.Bool.{and_from, and_parts, cond-false, cond-true, or_left, or_parts, or_right}
use Rattle.std.specs.Fmt.{decimal}
use Rattle.std.specs.List.{list_all}
use Rattle.std.specs.Option.{option_map_or}
use Rattle.phone_chars.specs.Characters.{is_digit}
use Rattle.phone_values.specs.declared.country.Id.{Id}
use Rattle.phone_values.specs.declared.error.ParseError.{ParseError}
use Rattle.phone_values.specs.declared.mode.Mode.TheVariants.{International}
use Rattle.phone_library_text.specs.Written.{IsWritten, most_characters}
use Rattle.phone_library_text.specs.declared.written.WrittenNumber.{WrittenNumber}
use Rattle.phone_library_text.proofs.PlainWritten.{international_written, national_written}
use Rattle.phone_library_text.proofs.WrittenOnes.{written_same}
use Rattle.phone_plans.specs.CodeLookUps.{first_of, shortest, territories}
use Rattle.phone_parts.proofs.Ends.{all_wider}
use Rattle.phone_records.specs.declared.loader.Metadata.{Metadata}
use Rattle.phone_typed.specs.Keys.{is_key, is_mark}
use Rattle.phone_typed.specs.Typed.{text_abroad, text_of_code, text_of_keys, typed}
use Rattle.phone_typed.proofs.MarkedTexts.{is_body, may_stand}
use Rattle.phone_typed.proofs.MarkedWritten.{signed_written, unsigned_written}
use Rattle.phone_typed.proofs.TypedKeys.{Shows, typed-shows}

-- a text whose keys are digits is digits and marks
abbrev IsBodyOf : List ℕ → Type 0
IsBodyOf t = (list_all is_body t ≡ true) × (filter is_digit t ≡ filter is_key t)

body_of : (t : List ℕ) → list_all is_digit (filter is_key t) ≡ true → list_all may_stand t ≡ true → IsBodyOf t
body_of [] digits all = (refl, refl)
body_of (c ∷ t) digits all =
    let parts = and_parts (may_stand c) (list_all may_stand t) all in
    at (is_key c) refl digits parts.0 (λ digits. body_of t digits parts.1)
  where
    at : (b : Bool) → is_key c ≡ b → list_all is_digit (cond b (c ∷ filter is_key t) (filter is_key t)) ≡ true → may_stand c ≡ true →
        (list_all is_digit (filter is_key t) ≡ true → IsBodyOf t) →
        (list_all is_body (c ∷ t) ≡ true) × (filter is_digit (c ∷ t) ≡ cond b (c ∷ filter is_key t) (filter is_key t))
    at true key digits stands more =
        let both = and_parts (is_digit c) (list_all is_digit (filter is_key t)) digits in
        let rest = more both.1 in
        (and_from (is_body c) (list_all is_body t) (ap (λ b. b || is_mark c) both.0) rest.0, cond-true _ _ _ both.0 ∙ ap (λ s. c ∷ s) rest.1)
    at false other digits stands more =
        let rest = more digits in
        let no_digit = (or_parts (is_digit c) (c == 43) other).0 in
        let mark : is_mark c ≡ true = ap (λ b. b || is_mark c) (sym other) ∙ stands in
        (and_from (is_body c) (list_all is_body t) (or_right (is_digit c) (is_mark c) mark) rest.0, cond-false _ _ _ no_digit ∙ rest.1)

-- keys are no more than what shows them
few_keys : (t : List ℕ) → length (filter is_key t) ≤ length t
few_keys [] = omega arith
few_keys (c ∷ t) = at (is_key c) (few_keys t)
  where
    at : (b : Bool) → length (filter is_key t) ≤ length t → length (cond b (c ∷ filter is_key t) (filter is_key t)) ≤ length (c ∷ t)
    at true less = omega (arith, less)
    at false less = omega (arith, less)

digit_key : (c : ℕ) → is_digit c ≡ true → is_key c ≡ true
digit_key c h = or_left (is_digit c) (c == 43) h

digits_keys : (d : List ℕ) → list_all is_digit d ≡ true → list_all is_key d ≡ true
digits_keys d all = all_wider is_digit is_key digit_key d all

-- after a plus sign the text begins with one
record IsAfterPlus (t : List ℕ) : Type 0 where
  body : List ℕ
  whole : t ≡ 43 ∷ body

code_after_plus : (db : List Metadata) (digits : List ℕ) (code : ℕ) → IsAfterPlus (text_of_code db digits code)
code_after_plus db digits code = at (first_of (territories code db))
  where
    k : ℕ
    k = length (decimal code)

    at : (o : Option Metadata) → IsAfterPlus (option_map_or (λ m. 43 ∷ (take k digits ++ 32 ∷ text_of_keys m International (drop k digits) (drop k digits))) o (43 ∷ digits))
    at None = record { body = digits; whole = refl }
    at (Some m) = record { body = take k digits ++ 32 ∷ text_of_keys m International (drop k digits) (drop k digits); whole = refl }

after_plus : (db : List Metadata) (digits : List ℕ) → IsAfterPlus (text_abroad db digits)
after_plus db digits = at (shortest db digits)
  where
    at : (o : Option ℕ) → IsAfterPlus (option_map_or (text_of_code db digits) o (43 ∷ digits))
    at None = record { body = digits; whole = refl }
    at (Some code) = code_after_plus db digits code

tail_same : (a : ℕ) (s t : List ℕ) → a ∷ s ≡ a ∷ t → s ≡ t
tail_same a s t e = cc

pub shown_signed : (db : List Metadata) (hint : Option Id) (digits : List ℕ) → list_all is_digit digits ≡ true → 3 ≤ length digits → length (typed db hint (43 ∷ digits)) ≤ most_characters →
    (r : Result WrittenNumber ParseError) → IsWritten (43 ∷ digits) r → IsWritten (typed db hint (43 ∷ digits)) r
shown_signed db hint digits all some le r h =
    let t : List ℕ = typed db hint (43 ∷ digits) in
    let shows : Shows (43 ∷ digits) t = typed-shows db hint (43 ∷ digits) (and_from _ _ refl (digits_keys digits all)) in
    let few : length (43 ∷ digits) ≤ most_characters =
    (let fewer = few_keys t in let same = ap length shows.0 in omega (arith, fewer, same, le)) in
    let shape = after_plus db digits in
    let whole : t ≡ 43 ∷ shape.body = shape.whole in
    let keys : filter is_key shape.body ≡ digits = tail_same 43 _ _ (ap (filter is_key) (sym whole) ∙ shows.0) in
    let stands : list_all may_stand shape.body ≡ true = (and_parts (may_stand 43) _ (ap (list_all may_stand) (sym whole) ∙ shows.1)).1 in
    let body = body_of shape.body (ap (list_all is_digit) keys ∙ all) stands in
    let is_written = signed_written shape.body digits body.0 (body.1 ∙ keys) some (subst (λ x. length x ≤ most_characters) whole le) in
    subst (IsWritten t) (written_same (43 ∷ digits) _ r (international_written digits all some few) h) (subst (λ x. IsWritten x (Ok (record { has_plus = true; digits = digits; extension = None }))) (sym whole) is_written)

pub shown_unsigned : (db : List Metadata) (hint : Option Id) (digits : List ℕ) → list_all is_digit digits ≡ true → 3 ≤ length digits → length (typed db hint digits) ≤ most_characters →
    (r : Result WrittenNumber ParseError) → IsWritten digits r → IsWritten (typed db hint digits) r
shown_unsigned db hint digits all some le r h =
    let t : List ℕ = typed db hint digits in
    let shows : Shows digits t = typed-shows db hint digits (digits_keys digits all) in
    let few : length digits ≤ most_characters = (let fewer = few_keys t in let same = ap length shows.0 in omega (arith, fewer, same, le)) in
    let body = body_of t (ap (list_all is_digit) shows.0 ∙ all) shows.1 in
    let is_written = unsigned_written t digits body.0 (body.1 ∙ shows.0) some le in
    subst (IsWritten t) (written_same digits _ r (national_written digits all some few) h) is_written
