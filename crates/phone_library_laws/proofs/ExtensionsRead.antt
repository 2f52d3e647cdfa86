-- What is read has digits alone for an extension, one to twenty.
use Rattle.std.proofs.Common.{ℕ, ◌≤◌, Bool, true, false, List, length, not, ◌==◌, nat_lt, cond}
use Rattle.std.proofs.Common.{Option, Result, Ok, Err, option_map, encode_utf8_all}
use Rattle.std.proofs.Common.{arith}
use Rattle.std.specs.Result.{result_map_both}
use Rattle.phone_values.specs.Numbers.{National}
use Rattle.phone_values.specs.declared.country.Id.{Id}
use Rattle.phone_values.specs.declared.error.ParseError.{ParseError}
use Rattle.phone_values.specs.declared.error.ParseError.TheVariants.{TooShortNsn}
use Rattle.phone_values.specs.declared.reading.Reading.{Reading}
use Rattle.phone_library.specs.LibraryCodes.{code_in}
use Rattle.phone_library.specs.Readings
use Rattle.phone_library.specs.Readings.{ReadsByLibrary, after_code, after_code_if_any}
use Rattle.phone_library.specs.Readings.{national_number, reading_of, reading_under, stripped}
use Rattle.phone_library.specs.Readings.{stripping_territory}
use Rattle.phone_library_text.specs.Announcements.{Announces, by_commas, by_dashes, by_parameter}
use Rattle.phone_library_text.specs.Announcements.{by_pause, by_sign, by_word}
use Rattle.phone_library_text.specs.Viable
use Rattle.phone_library_text.specs.Viable.{HasNumber}
use Rattle.phone_library_text.specs.Written
use Rattle.phone_library_text.specs.Written.{IsWritten, IsWrittenIn}
use Rattle.phone_library_text.specs.declared.written.WrittenNumber.{WrittenNumber}
use Rattle.phone_read.specs.Hints.{Coded, hinted}
use Rattle.phone_records.specs.declared.loader.Metadata.{Metadata}
use Rattle.phone_read.specs.Strips.{Stripped}
use Rattle.phone_library_laws.specs.Announced.{IsParameterIfAny}
use Rattle.phone_library_laws.proofs.ScriptDigits.{IsUtf8-digits, chars-digits}

-- no announcement is followed by more than twenty digits
at_most_twenty : (t : List ℕ) (n : ℕ) (signed : Bool) → Announces t n signed → n ≤ 20
at_most_twenty t n signed (by_parameter alike few unsigned) = few
at_most_twenty t n signed (by_word h few) = few
at_most_twenty t n signed (by_sign h few) = omega (arith, few)
at_most_twenty t n signed (by_dashes all some few is_signed) = omega (arith, few)
at_most_twenty t n signed (by_pause h few) = omega (arith, few)
at_most_twenty t n signed (by_commas h few) = omega (arith, few)

digits_read : (t front : List ℕ) (e : Option (List ℕ)) → HasNumber t front e →
    IsParameterIfAny (option_map encode_utf8_all e)
digits_read t front e (Viable.extended n d h v) =
    let x = h.is_extension in
    let same = chars-digits d x.digits in (
      record {
        utf8 = IsUtf8-digits d x.digits;
        digits = rw same x.digits;
        some = rw same x.some_digits;
      },
      rw same (at_most_twenty x.announcement (length d) (not (length x.sign == 0)) x.announced),
    )
digits_read t front e (Viable.not_viable n d h v) = tt
digits_read t front e (Viable.plain h) = tt

-- how a number is written, where it is
abbrev IsFineIfWritten : Result WrittenNumber ParseError → Type 0
IsFineIfWritten (Ok w) = IsParameterIfAny w.extension
IsFineIfWritten (Err e) = Unit {0}

fine_written_in : (n : List ℕ) (r : Result WrittenNumber ParseError) → IsWrittenIn n r →
    IsFineIfWritten r
fine_written_in n r (Written.not_viable v) = tt
fine_written_in n r (Written.number front e v h) = digits_read n front e h

fine_written : (t : List ℕ) (r : Result WrittenNumber ParseError) → IsWritten t r →
    IsFineIfWritten r
fine_written t r (Written.too_long more) = tt
fine_written t r (Written.nothing few none) = tt
fine_written t r (Written.something n w few text h) = fine_written_in n w h

-- the number's extension is that of the text
abbrev IsFineIfRead : Result Reading ParseError → Type 0
IsFineIfRead (Ok n) = IsParameterIfAny n.extension
IsFineIfRead (Err e) = Unit {0}

fine_reading : (c : Coded) (e : Option (List ℕ)) (s : Stripped) → IsParameterIfAny e →
    IsFineIfRead (reading_of c e s)
fine_reading c e s fine = at (national_number s.national)
  where
    at : (r : Result National ParseError) →
        IsFineIfRead (result_map_both (λ n. record {
          code = record { value = c.value; source = c.source };
          national = n;
          extension = e;
          carrier = s.carrier;
        }) (λ e. e) r)
    at (Ok n) = fine
    at (Err x) = tt

fine_after_code : (db : List Metadata) (m : Option Metadata) (e : Option (List ℕ)) (c : Coded) →
    IsParameterIfAny e → IsFineIfRead (after_code db m e c)
fine_after_code db m e c fine =
    at (nat_lt (length c.rest) 2) (fine_reading c e (stripped (stripping_territory db m c) c.rest)
    fine)
  where
    at : (b : Bool) → IsFineIfRead (reading_of c e (stripped (stripping_territory db m c) c.rest)) →
        IsFineIfRead (cond b (Err TooShortNsn)
        (reading_of c e (stripped (stripping_territory db m c) c.rest)))
    at true h = tt
    at false h = h

fine_if_coded : (db : List Metadata) (m : Option Metadata) (e : Option (List ℕ))
    (r : Result Coded ParseError) → IsParameterIfAny e →
    IsFineIfRead (after_code_if_any db m e r)
fine_if_coded db m e (Ok c) fine = fine_after_code db m e c fine
fine_if_coded db m e (Err x) fine = tt

fine_read : (db : List Metadata) (hint : Option Id) (t : List ℕ) (r : Result Reading ParseError) →
    ReadsByLibrary db hint t r → IsFineIfRead r
fine_read db hint t r (Readings.refused e h) = tt
fine_read db hint t r (Readings.written w h) =
    fine_if_coded db (hinted db hint) w.extension (code_in db (hinted db hint) w.has_plus w.digits)
    (fine_written t (Ok w) h)

pub extension_read : (db : List Metadata) (hint : Option Id) (t : List ℕ) (n : Reading) →
    ReadsByLibrary db hint t (Ok n) → IsParameterIfAny n.extension
extension_read db hint t n h = fine_read db hint t (Ok n) h
