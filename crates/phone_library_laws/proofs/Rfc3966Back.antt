-- The text of RFC 3966 of a coded number is read as the number exactly where nothing is stripped
-- off
-- its digits.
use Rattle.std.proofs.Common.{◌≡◌, inl, inr, ℕ, ◌≤◌, ◌<◌, ◌^◌, ◌==◌, Bool, true, false, cond}
use Rattle.std.proofs.Common.{List, [], ◌∷◌, ◌++◌, codes, length, chars, None, Some, Ok}
use Rattle.std.proofs.Common.{Option, encode_utf8_all, refl, ap, ap₂, sym, subst, ◌∙◌, append_assoc}
use Rattle.std.proofs.Common.{arith, true≢false, eqb-true}
use Rattle.std.proofs.lemmas.Bool.{and_from, cond-false, or_cases, or_left}
use Rattle.std.proofs.lemmas.List.Folds.{list_all-append}
use Rattle.std.proofs.lemmas.Str.{chars-append, encodes-chars}
use Rattle.std.specs.Fmt.{decimal}
use Rattle.std.specs.List.{list_all}
use Rattle.ucd_category.proofs.Computing.{ucd_category}
use Rattle.phone_chars.specs.Characters.{is_digit, is_separator}
use Rattle.phone_parts.specs.Texts.{begins, ends}
use Rattle.phone_parts.proofs.Ends.{all_wider, ends-append}
use Rattle.phone_parts.proofs.PrintedTexts.{digit_apart}
use Rattle.phone_values.specs.Numbers.{text_of}
use Rattle.phone_values.specs.declared.country.Id.{Id}
use Rattle.phone_values.specs.declared.mode.Mode.TheVariants.{Rfc3966}
use Rattle.phone_values.specs.declared.reading.Reading.{Reading}
use Rattle.phone_library.specs.Readings.{ReadsByLibrary}
use Rattle.phone_library_text.specs.Written.{IsWritten, most_characters}
use Rattle.phone_values.specs.declared.rules.Rules.{Rules}
use Rattle.phone_library.specs.Printed.{printed_by}
use Rattle.phone_print.specs.Texts.{extension_parameter, hyphenated, laid_out_by, rfc3966_by}
use Rattle.phone_read.specs.TransformRules.{rules_have_no_plus}
use Rattle.phone_records.specs.declared.loader.Metadata.{Metadata}
use Rattle.phonenumber.proofs.BackNumbers.{list_all-decimal}
use Rattle.phonenumber.proofs.BackTexts.{IsUtf8-low, all_dialled, chars-low, hyphenated-digits}
use Rattle.phonenumber.proofs.BackTexts.{is_dialled, is_low, low_digit, low_digits}
use Rattle.phone_library_laws.specs.Layouts.{IsLaidOut, is_quiet}
use Rattle.phone_library_laws.specs.Coded.{IsCoded, IsLeftAlone}
use Rattle.phone_library_laws.specs.Plain.{IsPlainRfc3966}
use Rattle.phone_library_laws.specs.Printed.{printed_reading, uncarried}
use Rattle.phone_library_laws.proofs.CodedNumbers.{coded_digits, coded_number, some_last}
use Rattle.phone_library_laws.proofs.LaidOut.{is_parted}
use Rattle.phone_library_laws.proofs.Exactly.{idle_if_read}
use Rattle.phone_library_laws.proofs.PrintedTexts.{chars-parameter, printed_text}
use Rattle.phone_library_laws.proofs.ReadSigned.{enough, read_signed, signed}
use Rattle.phone_library_laws.proofs.Tails.{parameter_tail, tail}
use Rattle.phone_library_laws.proofs.WrittenLaidOut.{IsBefore, IsNumber}

-- the scheme stands before the number
scheme_before : IsBefore (codes "tel:")
unfolding ucd_category
scheme_before = record { no_start = refl; plain = refl }

no_separator : (c : ℕ) → is_digit c ≡ true → is_separator c ≡ false
no_separator = digit_apart is_separator refl

-- hyphens in place of separators leave a last digit where it is
hyphenated_last : (t : List ℕ) → ends is_digit t ≡ true → ends is_digit (hyphenated t) ≡ true
hyphenated_last [] last = absurd (true≢false (sym last))
hyphenated_last (c ∷ []) last = ap (ends is_digit) (cond-false _ _ _ (no_separator c last)) ∙ last
hyphenated_last (c ∷ d ∷ cs) last =
    at (is_separator c) (begins is_separator (d ∷ cs)) (hyphenated_last (d ∷ cs) last)
  where
    rest : List ℕ
    rest = hyphenated (d ∷ cs)

    behind : (x : ℕ) → ends is_digit (hyphenated (d ∷ cs)) ≡ true →
        ends is_digit (x ∷ hyphenated (d ∷ cs)) ≡ true
    behind x h = ends-append is_digit (x ∷ []) (hyphenated (d ∷ cs))
        (some_last is_digit (hyphenated (d ∷ cs)) h) ∙ h

    at : (b more : Bool) → ends is_digit (hyphenated (d ∷ cs)) ≡ true →
        ends is_digit (cond b (cond more (hyphenated (d ∷ cs)) (45 ∷ hyphenated (d ∷ cs)))
        (c ∷ hyphenated (d ∷ cs))) ≡ true
    at true true h = h
    at true false h = behind 45 h
    at false more h = behind c h

hyphen_passes : (p : ℕ → Bool) → ((c : ℕ) → is_digit c ≡ true → p c ≡ true) → p 45 ≡ true →
    (c : ℕ) → is_dialled c ≡ true → p c ≡ true
hyphen_passes p digits hyphen c h = elim (or_cases (is_digit c) (c == 45) h) [
  | inl digit ↦ digits c digit
  | inr same ↦ ap p (eqb-true c 45 same) ∙ hyphen
]

-- digits with separators are so laid out with hyphens alone
hyphenated_dialled : (t digits : List ℕ) → IsLaidOut is_separator t digits →
    list_all is_dialled (hyphenated t) ≡ true
hyphenated_dialled t digits h = all_dialled no_separator t h.only

hyphenated_laid : (t digits : List ℕ) → IsLaidOut is_separator t digits →
    IsLaidOut is_quiet (hyphenated t) digits
hyphenated_laid t digits h = record {
  only = all_wider is_dialled is_parted
      (hyphen_passes is_parted (λ c d. or_left (is_digit c) (is_quiet c) d) refl) (hyphenated t)
      (hyphenated_dialled t digits h);
  same = hyphenated-digits no_separator t h.only ∙ h.same;
  last = hyphenated_last t h.last;
}

module _ (whose : Rules) (db : List Metadata) (n : Reading) (h : IsCoded db n)
    (p : IsPlainRfc3966 whose db (uncarried n)) where
  abbrev cd : List ℕ
  cd = decimal n.code.value

  abbrev q : List ℕ
  q = chars (laid_out_by whose p.layout.territory Rfc3966 None (uncarried n))

  abbrev number : List ℕ
  number = 43 ∷ (cd ++ 45 ∷ hyphenated q)

  abbrev behind : List ℕ
  behind = tail (codes ";ext=") n.extension

  fits : n.code.value < 2 ^ 64
  fits = omega (arith, h.short_code)

  code : list_all is_digit cd ≡ true
  code = list_all-decimal n.code.value fits

  hyphens_low : list_all is_low (hyphenated q) ≡ true
  hyphens_low = all_wider is_dialled is_low (hyphen_passes is_low low_digit refl) (hyphenated q)
      (hyphenated_dialled q (text_of n.national) p.layout.laid)

  number_low : list_all is_low number ≡ true
  number_low = list_all-append is_low cd (45 ∷ hyphenated q)
      ∙ and_from _ _ (low_digits cd code) hyphens_low

  written_bytes : encode_utf8_all (hyphenated q) ≡ hyphenated q
  written_bytes = ap encode_utf8_all (sym (chars-low (hyphenated q) hyphens_low))
      ∙ encodes-chars (hyphenated q) (IsUtf8-low (hyphenated q) hyphens_low)

  characters : chars (rfc3966_by whose p.layout.territory None (uncarried n)) ≡ codes
      "tel:" ++ (number ++ behind)
  characters =
      ap (λ w. chars (codes "tel:+" ++ (cd ++ 45 ∷ (w ++ extension_parameter n.extension))))
      written_bytes
      ∙ ap (λ t. chars (codes "tel:+" ++ t))
      (sym (append_assoc cd (45 ∷ hyphenated q) (extension_parameter n.extension)))
      ∙ chars-append (codes "tel:" ++ number) (extension_parameter n.extension)
      (IsUtf8-low (codes "tel:" ++ number) number_low)
      ∙ ap₂ (λ a b. a ++ b) (chars-low (codes "tel:" ++ number) number_low)
      (chars-parameter n.extension p.parameter)

  is_number : IsNumber number
  is_number = coded_number cd (hyphenated q) (text_of n.national) 45 code refl refl
      (hyphenated_laid q (text_of n.national) p.layout.laid) (enough db n h)

  written : IsWritten (codes "tel:" ++ (number ++ behind)) (Ok (signed db n h))
  written =
      subst (λ d. IsWritten (codes "tel:" ++ (number ++ behind))
      (Ok (record { has_plus = true; digits = d; extension = n.extension })))
      (coded_digits cd (hyphenated q) (text_of n.national) 45 code refl refl
      (hyphenated_laid q (text_of n.national) p.layout.laid) (enough db n h))
      (parameter_tail (codes "tel:") number scheme_before is_number n.extension p.parameter
      (subst (λ t. length t ≤ most_characters) characters p.layout.few))

  -- the text that is printed has these characters
  printed_is : (text : List ℕ) → printed_by whose db Rfc3966 (uncarried n) ≡ Some text →
      chars text ≡ codes "tel:" ++ (number ++ behind)
  printed_is text e =
      ap chars (sym (printed_text whose db Rfc3966 (uncarried n) p.layout.territory text
      p.layout.first e)) ∙ characters

  pub rfc3966_back : (hint : Option Id) (text : List ℕ) →
      printed_by whose db Rfc3966 (uncarried n) ≡ Some text → IsLeftAlone db n →
      ReadsByLibrary db hint (chars text) (Ok (printed_reading n))
  rfc3966_back hint text e idle =
      subst (λ t. ReadsByLibrary db hint t (Ok (printed_reading n))) (sym (printed_is text e))
      (read_signed db n h idle hint (codes "tel:" ++ (number ++ behind)) written)

  pub rfc3966_idle : rules_have_no_plus db ≡ true → (hint : Option Id) (text : List ℕ) →
      printed_by whose db Rfc3966 (uncarried n) ≡ Some text →
      ReadsByLibrary db hint (chars text) (Ok (printed_reading n)) → IsLeftAlone db n
  rfc3966_idle rules hint text e read =
      idle_if_read db n h rules hint (codes "tel:" ++ (number ++ behind)) written
      (subst (λ t. ReadsByLibrary db hint t (Ok (printed_reading n))) (printed_is text e) read)
