-- The digits of a number, behind a plus sign, are read as the number where nothing is stripped off
-- them.
use Rattle.std.proofs.Common.{◌≡◌, ℕ, ◌<◌, ◌≤◌, ◌^◌, true, List, ◌++◌, length, Option, Some, Ok}
use Rattle.std.proofs.Common.{ap, subst, ◌∙◌, arith, length-append}
use Rattle.std.proofs.Math.Seq.{drop-append_seam}
use Rattle.std.proofs.lemmas.Bool.{cond-false, le-ltb}
use Rattle.std.proofs.lemmas.Fmt.{decimal_nonempty}
use Rattle.std.specs.Fmt.{decimal}
use Rattle.phone_values.specs.Numbers.{text_of}
use Rattle.phone_values.specs.declared.country.Id.{Id}
use Rattle.phone_values.specs.declared.country.Source.TheVariants.{Plus}
use Rattle.phone_values.specs.declared.reading.Reading.{Reading}
use Rattle.phone_library.specs.LibraryCodes.{code_after_sign, code_in, or_by_hint}
use Rattle.phone_library.specs.Readings
use Rattle.phone_library.specs.Readings.{ReadsByLibrary, after_code, after_code_if_any, reading_of}
use Rattle.phone_library.specs.Readings.{reading_under, stripped}
use Rattle.phone_library_laws.specs.Again.{IsSettled}
use Rattle.phone_library_laws.proofs.NationalTexts.{national_number-text_of}
use Rattle.phone_library_laws.proofs.ReadAgain.{not_few}
use Rattle.phone_library_text.specs.Written.{IsWritten}
use Rattle.phone_library_text.specs.declared.written.WrittenNumber.{WrittenNumber}
use Rattle.phone_plans.specs.CodeLookUps.{first_of, shortest, territories}
use Rattle.phone_read.specs.CallingCodes.{code_by_front}
use Rattle.phone_read.specs.Hints.{Coded, hinted}
use Rattle.phone_records.specs.declared.loader.Metadata.{Metadata}
use Rattle.phone_read.specs.Strips.{Stripped}
use Rattle.phonenumber.proofs.BackCodes.{shortest-decimal}
use Rattle.phone_library_laws.specs.Coded.{IsCoded, IsLeftAlone}
use Rattle.phone_library_laws.specs.Printed.{printed_reading, uncarried}

-- a settled number is coded
pub coded_of : (db : List Metadata) (n : Reading) → IsSettled db n → IsCoded db n
coded_of db n h = record {
  prefix_free = h.prefix_free;
  listed = h.listed;
  some_code = h.some_code;
  short_code = h.short_code;
  held = h.held;
  long_enough = h.long_enough;
  short_enough = h.short_enough;
}

-- and so is it without its carrier
pub uncarried_coded : (db : List Metadata) (n : Reading) → IsCoded db n → IsCoded db (uncarried n)
uncarried_coded db n h = record {
  prefix_free = h.prefix_free;
  listed = h.listed;
  some_code = h.some_code;
  short_code = h.short_code;
  held = h.held;
  long_enough = h.long_enough;
  short_enough = h.short_enough;
}

module _ (db : List Metadata) (n : Reading) (h : IsCoded db n) where
  abbrev digits : List ℕ
  digits = decimal n.code.value ++ text_of n.national

  -- how the number is written
  abbrev pub signed : WrittenNumber
  signed = record { has_plus = true; digits = digits; extension = n.extension }

  fits : n.code.value < 2 ^ 64
  fits = omega (arith, h.short_code)

  pub enough : 3 ≤ length digits
  enough =
      omega (
        arith,
        length-append (decimal n.code.value) (text_of n.national),
        decimal_nonempty n.code.value fits,
        h.long_enough,
      )

  -- the code that is found, and the digits behind it
  abbrev pub coded : Coded
  coded = record { source = Plus; value = n.code.value; rest = text_of n.national }

  found : shortest db digits ≡ Some n.code.value
  found = shortest-decimal db n.code.value (text_of n.national) h.some_code h.short_code h.listed
      h.prefix_free

  after_sign : code_after_sign db Plus digits ≡ Ok coded
  after_sign =
      let front : code_by_front db Plus digits ≡ Ok coded =
      rw (found, drop-append_seam (decimal n.code.value) (text_of n.national)) in
      cond-false _ _ _ (not_few (length digits) (omega (arith, enough))) ∙ front

  coded_in : (m : Option Metadata) → code_in db m true digits ≡ Ok coded
  coded_in m = ap (or_by_hint db m digits) after_sign

  -- what stripping leaves
  abbrev pub left : Stripped
  left = stripped (first_of (territories n.code.value db)) (text_of n.national)

  after : (m : Option Metadata) →
      after_code db m n.extension coded ≡ reading_of coded n.extension left
  after m = cond-false _ _ _ (le-ltb (length (text_of n.national)) 2 h.long_enough)

  read : (m : Option Metadata) → reading_under db m signed ≡ reading_of coded n.extension left
  read m = ap (after_code_if_any db m n.extension) (coded_in m) ∙ after m

  -- so the text is read as what is left
  pub reads_left : (hint : Option Id) (t : List ℕ) → IsWritten t (Ok signed) →
      ReadsByLibrary db hint t (reading_of coded n.extension left)
  reads_left hint t written =
      subst (ReadsByLibrary db hint t) (read (hinted db hint)) (Readings.written signed written)

  whole : IsLeftAlone db n → reading_of coded n.extension left ≡ Ok (printed_reading n)
  whole idle = ap (reading_of coded n.extension) idle
      ∙ rw (national_number-text_of n.national h.held h.long_enough h.short_enough)

  -- which is the number
  pub read_signed : IsLeftAlone db n → (hint : Option Id) (t : List ℕ) → IsWritten t (Ok signed) →
      ReadsByLibrary db hint t (Ok (printed_reading n))
  read_signed idle hint t written =
      subst (ReadsByLibrary db hint t) (whole idle) (reads_left hint t written)
