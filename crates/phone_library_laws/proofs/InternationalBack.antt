-- The international text of a coded number is read as the number exactly where nothing is stripped
-- off its digits.
use Rattle.std.proofs.Common.{◌≡◌, ℕ, ◌≤◌, ◌<◌, ◌^◌, true, List, [], ◌∷◌, ◌++◌, length, chars, None}
use Rattle.std.proofs.Common.{Some, Ok, Option, refl, ap, ap₂, sym, subst, ◌∙◌, append_assoc, arith}
use Rattle.std.proofs.lemmas.Bool.{and_from}
use Rattle.std.proofs.lemmas.List.Folds.{list_all-append}
use Rattle.std.proofs.lemmas.Str.{chars-append}
use Rattle.std.specs.Fmt.{decimal}
use Rattle.std.specs.List.{list_all}
use Rattle.phone_chars.specs.Characters.{is_digit}
use Rattle.phone_values.specs.Numbers.{text_of}
use Rattle.phone_values.specs.declared.country.Id.{Id}
use Rattle.phone_values.specs.declared.mode.Mode.TheVariants.{International}
use Rattle.phone_values.specs.declared.reading.Reading.{Reading}
use Rattle.phone_library.specs.Readings.{ReadsByLibrary}
use Rattle.phone_library_text.specs.Written.{IsWritten, most_characters}
use Rattle.phone_values.specs.declared.rules.Rules.{Rules}
use Rattle.phone_library.specs.Printed.{printed_by}
use Rattle.phone_print.specs.Texts.{extension_part, international_by, laid_out_by}
use Rattle.phone_read.specs.TransformRules.{rules_have_no_plus}
use Rattle.phone_records.specs.declared.loader.Metadata.{Metadata}
use Rattle.phonenumber.proofs.BackNumbers.{list_all-decimal}
use Rattle.phonenumber.proofs.BackTexts.{IsUtf8-low, chars-low, is_low, low_digits}
use Rattle.phone_library_laws.specs.Announced.{prefix_of}
use Rattle.phone_library_laws.specs.Coded.{IsCoded, IsLeftAlone}
use Rattle.phone_library_laws.specs.Plain.{IsPlainInternational}
use Rattle.phone_library_laws.specs.Printed.{printed_reading}
use Rattle.phone_library_laws.proofs.CodedNumbers.{coded_digits, coded_number, no_front}
use Rattle.phone_library_laws.proofs.Exactly.{idle_if_read}
use Rattle.phone_library_laws.proofs.PrintedTexts.{chars-part, printed_text}
use Rattle.phone_library_laws.proofs.ReadSigned.{enough, read_signed, signed}
use Rattle.phone_library_laws.proofs.Tails.{announced_tail, tail}
use Rattle.phone_library_laws.proofs.WrittenLaidOut.{IsNumber}

-- the characters of a number laid out with its extension, behind what is low
module _ (whose : Rules) (db : List Metadata) (n : Reading)
    (p : IsPlainInternational whose db n) where
  abbrev laid : List ℕ
  laid = laid_out_by whose p.layout.territory International None n

  abbrev behind : List ℕ
  behind = tail (chars (prefix_of p.layout.territory)) n.extension

  pub chars-laid : (front : List ℕ) → list_all is_low front ≡ true →
      chars (front ++ (laid ++ extension_part p.layout.territory n.extension))
      ≡ front ++ (chars laid ++ behind)
  chars-laid front low =
      chars-append front (laid ++ extension_part p.layout.territory n.extension)
      (IsUtf8-low front low)
      ∙ ap₂ (λ a b. a ++ b) (chars-low front low)
      (chars-append laid (extension_part p.layout.territory n.extension) p.layout.utf8
      ∙ ap (λ t. chars laid ++ t) (chars-part p.layout.territory n.extension p.announced))

module _ (whose : Rules) (db : List Metadata) (n : Reading) (h : IsCoded db n)
    (p : IsPlainInternational whose db n) where
  abbrev cd : List ℕ
  cd = decimal n.code.value

  fits : n.code.value < 2 ^ 64
  fits = omega (arith, h.short_code)

  code : list_all is_digit cd ≡ true
  code = list_all-decimal n.code.value fits

  abbrev number : List ℕ
  number = 43 ∷ (cd ++ 32 ∷ chars (laid whose db n p))

  front_low : list_all is_low (43 ∷ (cd ++ 32 ∷ [])) ≡ true
  front_low = list_all-append is_low cd (32 ∷ []) ∙ and_from _ _ (low_digits cd code) refl

  parted_text : (rest : List ℕ) → 43 ∷ (cd ++ 32 ∷ rest) ≡ (43 ∷ (cd ++ 32 ∷ [])) ++ rest
  parted_text rest = ap (λ t. 43 ∷ t) (sym (append_assoc cd (32 ∷ []) rest))

  characters : chars (international_by whose p.layout.territory None n) ≡ number ++ behind whose db n p
  characters =
      ap chars (parted_text (laid whose db n p ++ extension_part p.layout.territory n.extension))
      ∙ chars-laid whose db n p (43 ∷ (cd ++ 32 ∷ [])) front_low
      ∙ sym (append_assoc (43 ∷ (cd ++ 32 ∷ [])) (chars (laid whose db n p)) (behind whose db n p))
      ∙ ap (λ t. t ++ behind whose db n p) (sym (parted_text (chars (laid whose db n p))))

  is_number : IsNumber number
  is_number = coded_number cd (chars (laid whose db n p)) (text_of n.national) 32 code refl refl
      p.layout.laid (enough db n h)

  written : IsWritten (number ++ behind whose db n p) (Ok (signed db n h))
  written =
      subst (λ d. IsWritten (number ++ behind whose db n p)
      (Ok (record { has_plus = true; digits = d; extension = n.extension })))
      (coded_digits cd (chars (laid whose db n p)) (text_of n.national) 32 code refl refl p.layout.laid
      (enough db n h))
      (announced_tail [] number no_front is_number (prefix_of p.layout.territory) n.extension
      p.announced (subst (λ t. length t ≤ most_characters) characters p.layout.few))

  -- the text that is printed has these characters
  printed_is : (text : List ℕ) → printed_by whose db International n ≡ Some text →
      chars text ≡ number ++ behind whose db n p
  printed_is text e =
      ap chars (sym (printed_text whose db International n p.layout.territory text p.layout.first e))
      ∙ characters

  pub international_back : (hint : Option Id) (text : List ℕ) →
      printed_by whose db International n ≡ Some text → IsLeftAlone db n →
      ReadsByLibrary db hint (chars text) (Ok (printed_reading n))
  international_back hint text e idle =
      subst (λ t. ReadsByLibrary db hint t (Ok (printed_reading n))) (sym (printed_is text e))
      (read_signed db n h idle hint (number ++ behind whose db n p) written)

  pub international_idle : rules_have_no_plus db ≡ true → (hint : Option Id) (text : List ℕ) →
      printed_by whose db International n ≡ Some text →
      ReadsByLibrary db hint (chars text) (Ok (printed_reading n)) → IsLeftAlone db n
  international_idle rules hint text e read =
      idle_if_read db n h rules hint (number ++ behind whose db n p) written
      (subst (λ t. ReadsByLibrary db hint t (Ok (printed_reading n))) (printed_is text e) read)
