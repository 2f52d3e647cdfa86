-- A number behind an international prefix, with its code, is read as the number.
use Rattle.std.proofs.Common.{◌≡◌, ℕ, ◌<◌, ◌≤◌, ◌^◌, ◌==◌, not, true, false, List, [], ◌∷◌, ◌++◌}
use Rattle.std.proofs.Common.{drop, get_or, length, length-append, chars, Option, Some, Ok}
use Rattle.std.proofs.Common.{refl, ap, ap₂, sym, subst, ◌∙◌, append_assoc, arith, ne_eqb}
use Rattle.std.proofs.Common.{None}
use Rattle.std.proofs.Math.Seq.{drop-append_seam}
use Rattle.std.proofs.lemmas.Bool.{and_from, cond-false, cond-true, le-ltb, or_left}
use Rattle.std.proofs.lemmas.Fmt.{decimal_nonempty, first_decimal}
use Rattle.std.proofs.lemmas.List.Elements.{filter-append}
use Rattle.std.proofs.lemmas.List.Folds.{list_all-append}
use Rattle.std.specs.Fmt.{decimal}
use Rattle.std.specs.List.{list_all}
use Rattle.std.specs.Option.{option_map_or}
use Rattle.phone_chars.specs.Characters.{is_digit}
use Rattle.phone_parts.specs.Texts.{begins}
use Rattle.phone_parts.proofs.Ends.{all_wider, ends-append}
use Rattle.phone_values.specs.Numbers.{text_of}
use Rattle.phone_values.specs.declared.country.Id.{Id}
use Rattle.phone_values.specs.declared.country.Source.TheVariants.{Idd}
use Rattle.phone_values.specs.declared.mode.Mode.TheVariants.{International}
use Rattle.phone_values.specs.declared.reading.Reading.{Reading}
use Rattle.phone_library.specs.LibraryCodes.{code_after_sign, code_by_territory, code_in}
use Rattle.phone_library.specs.Readings
use Rattle.phone_library.specs.Readings.{ReadsByLibrary, after_code_if_any, reading_of}
use Rattle.phone_library.specs.Readings.{reading_under, stripped}
use Rattle.phone_library_laws.proofs.NationalTexts.{national_number-text_of}
use Rattle.phone_library_laws.proofs.ReadAgain.{not_few}
use Rattle.phone_library_text.specs.Written.{IsWritten, most_characters}
use Rattle.phone_library_text.specs.declared.written.WrittenNumber.{WrittenNumber}
use Rattle.phone_plans.specs.CodeLookUps.{first_of, shortest, territories}
use Rattle.phone_print.specs.Texts.{extension_part, laid_out_by}
use Rattle.phone_values.specs.declared.rules.Rules.{Rules}
use Rattle.phone_read.specs.CallingCodes.{code_by_front}
use Rattle.phone_read.specs.Hints.{Coded, hinted}
use Rattle.phone_records.specs.declared.loader.Metadata.{Metadata}
use Rattle.phone_read.specs.Dialling.{after_match, found_in}
use Rattle.phonenumber.proofs.BackCodes.{shortest-decimal}
use Rattle.phonenumber.proofs.BackNumbers.{list_all-decimal}
use Rattle.phonenumber.proofs.BackTexts.{is_low, low_digits}
use Rattle.phone_library_laws.specs.Announced.{prefix_of}
use Rattle.phone_library_laws.specs.Coded.{IsCoded, IsLeftAlone}
use Rattle.phone_library_laws.specs.Layouts.{IsLaidOut, is_quiet}
use Rattle.phone_library_laws.specs.Plain.{IsPlainInternational}
use Rattle.phone_library_laws.specs.Printed.{printed_reading}
use Rattle.phone_library_laws.proofs.CodedNumbers.{all_digits, some_last}
use Rattle.phone_library_laws.proofs.InternationalBack.{chars-laid}
use Rattle.phone_library_laws.proofs.LaidOut.{is_parted}
use Rattle.phone_library_laws.proofs.ReadSigned.{enough}
use Rattle.phone_library_laws.proofs.Tails.{tail}
use Rattle.phone_library_laws.proofs.WrittenDigits.{digits_written}

-- digits and a space before digits laid out
pub laid_behind : (cd q digits : List ℕ) → list_all is_digit cd ≡ true →
    IsLaidOut is_quiet q digits → IsLaidOut is_quiet (cd ++ 32 ∷ q) (cd ++ digits)
laid_behind cd q digits all laid = record {
  only = list_all-append is_parted cd (32 ∷ q)
      ∙ and_from _ _ (all_wider is_digit is_parted (λ c h. or_left (is_digit c) (is_quiet c) h) cd
      all) (and_from (is_parted 32) (list_all is_parted q) refl laid.only);
  same = filter-append is_digit cd (32 ∷ q) ∙ ap₂ (λ a b. a ++ b) (all_digits cd all) laid.same;
  last =
      ends-append is_digit cd (32 ∷ q) (λ e. cc)
      ∙ ends-append is_digit (32 ∷ []) q (some_last is_digit q laid.last) ∙ laid.last;
}

-- a positive code doesn't begin with 0
pub no_zero : (code : ℕ) (rest : List ℕ) → 1 ≤ code → code < 2 ^ 64 →
    begins (λ d. d == 48) (decimal code ++ rest) ≡ false
no_zero code rest some fits = at (decimal code) refl
  where
    at : (ds : List ℕ) → decimal code ≡ ds → begins (λ d. d == 48) (ds ++ rest) ≡ false
    at [] e =
        let none : length (decimal code) ≡ 0 = ap length e in
        absurd (omega (arith, decimal_nonempty code fits, none))
    at (d ∷ ds) e =
        let first : get_or (decimal code) 0 0 ≡ d = ap (λ t. get_or t 0 0) e in
        ne_eqb d 48
        (λ zero. absurd (omega (arith, first_decimal code (omega (arith, some)) fits, first, zero)))

module _ (db : List Metadata) (n : Reading) (h : IsCoded db n) where
  abbrev cd : List ℕ
  cd = decimal n.code.value

  fits : n.code.value < 2 ^ 64
  fits = omega (arith, h.short_code)

  -- what the digits are read as
  abbrev pub prefixed_reading : Reading
  prefixed_reading = record (printed_reading n) {
    code = record { value = n.code.value; source = Idd };
  }

  module _ (from : Metadata) (p : List ℕ)
      (found : found_in from.international_prefix (p ++ (cd ++ text_of n.national))
      ≡ Some (0, length p)) where
    abbrev digits : List ℕ
    digits = p ++ (cd ++ text_of n.national)

    abbrev prefixed : WrittenNumber
    prefixed = record { has_plus = false; digits = digits; extension = n.extension }

    -- what follows the prefix
    after_prefix : after_match digits (found_in from.international_prefix digits)
        ≡ Some (cd ++ text_of n.national)
    after_prefix =
        let rest = drop-append_seam p (cd ++ text_of n.national) in
        let some : not (begins (λ d. d == 48) (drop (length p) digits)) ≡ true =
        ap (λ t. not (begins (λ d. d == 48) t)) rest
        ∙ ap not (no_zero n.code.value (text_of n.national) h.some_code fits) in
        ap (after_match digits) found ∙ cond-true _ _ _ some ∙ ap (λ t. Some t) rest

    abbrev coded : Coded
    coded = record { source = Idd; value = n.code.value; rest = text_of n.national }

    shortest_is : shortest db (cd ++ text_of n.national) ≡ Some n.code.value
    shortest_is = shortest-decimal db n.code.value (text_of n.national) h.some_code h.short_code
        h.listed h.prefix_free

    after_sign : code_after_sign db Idd (cd ++ text_of n.national) ≡ Ok coded
    after_sign =
        let front : code_by_front db Idd (cd ++ text_of n.national) ≡ Ok coded =
        rw (shortest_is, drop-append_seam cd (text_of n.national)) in
        cond-false _ _ _ (not_few (length (cd ++ text_of n.national))
        (omega (arith, enough db n h))) ∙ front

    coded_in : code_in db (Some from) false digits ≡ Ok coded
    coded_in = ap (λ o. option_map_or (λ after. code_after_sign db Idd after) o
        (Ok (code_by_territory from digits))) after_prefix ∙ after_sign

    module _ (idle : IsLeftAlone db n) where
      whole : reading_of coded n.extension
          (stripped (first_of (territories n.code.value db)) (text_of n.national))
          ≡ Ok prefixed_reading
      whole = ap (reading_of coded n.extension) idle
          ∙ rw (national_number-text_of n.national h.held h.long_enough h.short_enough)

      read : reading_under db (Some from) prefixed ≡ Ok prefixed_reading
      read = ap (after_code_if_any db (Some from) n.extension) coded_in
          ∙ cond-false _ _ _ (le-ltb (length (text_of n.national)) 2 h.long_enough) ∙ whole

      read_prefixed : (hint : Option Id) (t : List ℕ) → hinted db hint ≡ Some from →
          IsWritten t (Ok prefixed) → ReadsByLibrary db hint t (Ok prefixed_reading)
      read_prefixed hint t there written =
          subst (ReadsByLibrary db hint t) (ap (λ o. reading_under db o prefixed) there ∙ read)
          (Readings.written prefixed written)

      module _ (whose : Rules) (plain : IsPlainInternational whose db n)
          (all : list_all is_digit p ≡ true) where
        abbrev laid : List ℕ
        laid = laid_out_by whose plain.layout.territory International None n

        abbrev behind : List ℕ
        behind = tail (chars (prefix_of plain.layout.territory)) n.extension

        abbrev q : List ℕ
        q = p ++ 32 ∷ (cd ++ 32 ∷ chars laid)

        abbrev front : List ℕ
        front = p ++ 32 ∷ (cd ++ 32 ∷ [])

        -- the bytes that are dialled
        abbrev pub dialled : List ℕ
        dialled = p ++ 32 ∷ (cd ++ 32 ∷ (laid ++ extension_part plain.layout.territory n.extension))

        code : list_all is_digit cd ≡ true
        code = list_all-decimal n.code.value fits

        low : list_all is_low front ≡ true
        low =
            list_all-append is_low p (32 ∷ (cd ++ 32 ∷ []))
            ∙ and_from _ _ (low_digits p all)
            (list_all-append is_low cd (32 ∷ []) ∙ and_from _ _ (low_digits cd code) refl)

        in_front : (rest : List ℕ) → p ++ 32 ∷ (cd ++ 32 ∷ rest) ≡ front ++ rest
        in_front rest =
            ap (λ t. p ++ 32 ∷ t) (sym (append_assoc cd (32 ∷ []) rest))
            ∙ sym (append_assoc p (32 ∷ (cd ++ 32 ∷ [])) rest)

        characters : chars dialled ≡ q ++ behind
        characters =
            ap chars (in_front (laid ++ extension_part plain.layout.territory n.extension))
            ∙ chars-laid whose db n plain front low
            ∙ sym (append_assoc front (chars laid) behind)
            ∙ ap (λ t. t ++ behind) (sym (in_front (chars laid)))

        laid_q : IsLaidOut is_quiet q digits
        laid_q = laid_behind p (cd ++ 32 ∷ chars laid) (cd ++ text_of n.national) all
            (laid_behind cd (chars laid) (text_of n.national) code plain.layout.laid)

        three : 3 ≤ length digits
        three = omega (arith, length-append p (cd ++ text_of n.national), enough db n h)

        pub prefix_back : (hint : Option Id) → hinted db hint ≡ Some from →
            length (chars dialled) ≤ most_characters →
            ReadsByLibrary db hint (chars dialled) (Ok prefixed_reading)
        prefix_back hint there few =
            subst (λ t. ReadsByLibrary db hint t (Ok prefixed_reading)) (sym characters)
            (read_prefixed hint (q ++ behind) there
            (digits_written q digits (prefix_of plain.layout.territory) n.extension laid_q three
            plain.announced (subst (λ t. length t ≤ most_characters) characters few)))
