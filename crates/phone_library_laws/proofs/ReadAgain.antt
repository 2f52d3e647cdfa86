-- The E.164 text of a number is read as the number.
use Rattle.std.proofs.Common.{◌≡◌, ℕ, ◌<◌, ◌≤◌, ◌^◌, nat_le, true, false, List, ◌∷◌, ◌++◌, length, chars, Option, None, Some, Ok, ap, sym, subst, ◌∙◌, arith, leb-true, length-append}
use Rattle.std.proofs.Math.Seq.{drop-append_seam}
use Rattle.std.proofs.lemmas.Bool.{and_from, cond-false, false_from_ne_true, le-ltb}
use Rattle.std.proofs.lemmas.Fmt.{decimal_nonempty, length-decimal-le}
use Rattle.std.proofs.lemmas.List.Folds.{list_all-append}
use Rattle.std.specs.Fmt.{decimal}
use Rattle.std.specs.List.{list_all}
use Rattle.phone_chars.specs.Characters.{is_digit}
use Rattle.phone_values.specs.Numbers.{text_of}
use Rattle.phone_values.specs.declared.country.Id.{Id}
use Rattle.phone_values.specs.declared.country.Source.TheVariants.{Plus}
use Rattle.phone_values.specs.declared.reading.Reading.{Reading}
use Rattle.phone_library.specs.LibraryCodes.{code_after_sign, code_in, or_by_hint}
use Rattle.phone_library.specs.Readings
use Rattle.phone_library.specs.Readings.{ReadsByLibrary, after_code, after_code_if_any, reading_of, reading_under}
use Rattle.phone_library_laws.specs.Again.{IsSettled, e164_reading}
use Rattle.phone_library_text.specs.Written.{IsWritten, most_characters}
use Rattle.phone_library_text.specs.declared.written.WrittenNumber.{WrittenNumber}
use Rattle.phone_plans.specs.CodeLookUps.{shortest}
use Rattle.phone_print.specs.Texts.{e164_text}
use Rattle.phone_read.specs.CallingCodes.{code_by_front}
use Rattle.phone_read.specs.Hints.{Coded, hinted}
use Rattle.phone_records.specs.declared.loader.Metadata.{Metadata}
use Rattle.phonenumber.proofs.BackCodes.{shortest-decimal}
use Rattle.phonenumber.proofs.BackNumbers.{list_all-decimal, list_all-text_of}
use Rattle.phonenumber.proofs.BackTexts.{chars-e164_text}
use Rattle.phone_library_laws.proofs.NationalTexts.{national_number-text_of}

-- what is written in a plus sign and digits
abbrev pub PlainInternational : Type 0
PlainInternational = (d : List ℕ) → list_all is_digit d ≡ true → 3 ≤ length d → length (43 ∷ d) ≤ most_characters →
    IsWritten (43 ∷ d) (Ok (record { has_plus = true; digits = d; extension = None }))

pub not_few : (k : ℕ) → 2 < k → nat_le k 2 ≡ false
not_few k more = false_from_ne_true _ (λ t. let few : k ≤ 2 = leb-true k 2 t in absurd (omega (arith, few, more)))

module _ (db : List Metadata) (n : Reading) (h : IsSettled db n) where
  abbrev code : ℕ
  code = n.code.value

  abbrev national : List ℕ
  national = text_of n.national

  abbrev digits : List ℕ
  digits = decimal code ++ national

  fits : code < 2 ^ 64
  fits = omega (arith, h.short_code)

  pub settled_digits : list_all is_digit digits ≡ true
  settled_digits = list_all-append is_digit (decimal code) national ∙ and_from _ _ (list_all-decimal code fits) (list_all-text_of n.national h.held)

  pub settled_enough : 3 ≤ length digits
  settled_enough = omega (arith, length-append (decimal code) national, decimal_nonempty code fits, h.long_enough)

  pub settled_few : length (43 ∷ digits) ≤ most_characters
  settled_few =
      let few : length (decimal code) ≤ 3 = length-decimal-le 3 code (omega arith) (omega (arith, h.short_code)) fits in
      omega (arith, length-append (decimal code) national, few, h.short_enough)

  pub settled_code : shortest db digits ≡ Some code
  settled_code = shortest-decimal db code national h.some_code h.short_code h.listed h.prefix_free

  -- the code that is found, and the digits after it
  abbrev pub settled_coded : Coded
  settled_coded = record { source = Plus; value = code; rest = national }

  after_sign : code_after_sign db Plus digits ≡ Ok settled_coded
  after_sign =
      let front : code_by_front db Plus digits ≡ Ok settled_coded = rw (settled_code, drop-append_seam (decimal code) national) in
      cond-false _ _ _ (not_few (length digits) (omega (arith, settled_enough))) ∙ front

  pub settled_code_in : (m : Option Metadata) → code_in db m true digits ≡ Ok settled_coded
  settled_code_in m = ap (or_by_hint db m digits) after_sign

  after : (m : Option Metadata) → after_code db m None settled_coded ≡ Ok (e164_reading n)
  after m =
      cond-false _ _ _ (le-ltb (length national) 2 h.long_enough)
      ∙ ap (reading_of settled_coded None) h.idle
      ∙ rw (national_number-text_of n.national h.held h.long_enough h.short_enough)

  abbrev number : WrittenNumber
  number = record { has_plus = true; digits = digits; extension = None }

  read : (m : Option Metadata) → reading_under db m number ≡ Ok (e164_reading n)
  read m = ap (after_code_if_any db m None) (settled_code_in m) ∙ after m

  pub settled_characters : chars (e164_text n) ≡ 43 ∷ digits
  settled_characters = chars-e164_text n fits h.held

  pub read_again : PlainInternational → (hint : Option Id) → ReadsByLibrary db hint (chars (e164_text n)) (Ok (e164_reading n))
  read_again finds hint =
      subst (λ t. ReadsByLibrary db hint t (Ok (e164_reading n))) (sym settled_characters)
      (subst (ReadsByLibrary db hint (43 ∷ digits)) (read (hinted db hint)) (Readings.written number (finds digits settled_digits settled_enough settled_few)))
