-- What a text is read as: by libphonenumber's rules.
use Rattle.std.specs.Prelude.{ℕ, ◌-◌, nat_lt, if◌then◌else◌, List, length, take, drop, Option}
use Rattle.std.specs.Prelude.{Result, Ok, Err}
use Rattle.std.specs.Result.{result_map_both}
use Rattle.phone_values.specs.Numbers.{National, leading_zeros, national_with, number_in}
use Rattle.phone_values.specs.declared.country.Id.{Id}
use Rattle.phone_values.specs.declared.country.Source.{Source}
use Rattle.phone_values.specs.declared.country.Source.TheVariants.{Default}
use Rattle.phone_values.specs.declared.error.ParseError.{ParseError}
use Rattle.phone_values.specs.declared.error.ParseError.TheVariants.{TooShortNsn, TooLong}
use Rattle.phone_values.specs.declared.reading.Reading.{Reading}
use Rattle.phone_library.specs.LibraryCodes.{code_in}
-- what a territory strips off digits
pub use Rattle.phone_library.specs.Stripping.{stripped}
use Rattle.phone_library_text.specs.Written.{IsWritten}
use Rattle.phone_library_text.specs.declared.written.WrittenNumber.{WrittenNumber}
use Rattle.phone_plans.specs.CodeLookUps.{first_of, territories}
use Rattle.phone_read.specs.Strips.{Stripped}
use Rattle.phone_read.specs.Hints.{Coded, hinted}
use Rattle.phone_records.specs.declared.loader.Metadata.{Metadata}

-- the territory by whose rules digits after a code are stripped: the hint's where the code is the
-- hint's alone, else the code's first
abbrev pub territory_by : List Metadata → Option Metadata → Source → ℕ → Option Metadata
territory_by db m Default code = m
territory_by db m source code = first_of (territories code db)

-- the same of a code with what told it
abbrev pub stripping_territory : List Metadata → Option Metadata → Coded → Option Metadata
stripping_territory db m coded = territory_by db m coded.source coded.value

-- the national number of 2 to 17 digits: the zeros before their last digit, and their value
abbrev pub national_number : List ℕ → Result National ParseError
national_number digits =
    if nat_lt (length digits) 2 then Err TooShortNsn
    else if nat_lt 17 (length digits) then Err TooLong
    else
    let zeros = leading_zeros (take (length digits - 1) digits) in
    national_with zeros (number_in 64 (drop zeros digits))

-- the number of a calling code, what stripping left after it, and an extension
abbrev pub reading_of : Coded → Option (List ℕ) → Stripped → Result Reading ParseError
reading_of c extension s =
    result_map_both (λ n. record {
      code = record { value = c.value; source = c.source };
      national = n;
      extension = extension;
      carrier = s.carrier;
    }) (λ e. e) (national_number s.national)

-- the number of digits that follow a calling code: at least two, before anything is stripped
abbrev pub after_code : List Metadata → Option Metadata → Option (List ℕ) → Coded →
    Result Reading ParseError
after_code db m extension c =
    if nat_lt (length c.rest) 2 then Err TooShortNsn
    else reading_of c extension (stripped (stripping_territory db m c) c.rest)

-- the same, where there is a code; else why there is none
abbrev pub after_code_if_any : List Metadata → Option Metadata → Option (List ℕ) →
    Result Coded ParseError → Result Reading ParseError
after_code_if_any db m extension (Ok c) = after_code db m extension c
after_code_if_any db m extension (Err e) = Err e

-- the number that was written so, under a hint's territory
abbrev pub reading_under : List Metadata → Option Metadata → WrittenNumber →
    Result Reading ParseError
reading_under db m w = after_code_if_any db m w.extension (code_in db m w.has_plus w.digits)

-- what a text is read as under a database and a hint: the refusal of the text, or the reading of
-- the number that is written in it
pub data ReadsByLibrary (db : List Metadata) (hint : Option Id) (t : List ℕ) :
    Result Reading ParseError → Type 0 where
  refused : (e : ParseError) → IsWritten t (Err e) → ReadsByLibrary db hint t (Err e)
  written : (w : WrittenNumber) → IsWritten t (Ok w) →
      ReadsByLibrary db hint t (reading_under db (hinted db hint) w)
