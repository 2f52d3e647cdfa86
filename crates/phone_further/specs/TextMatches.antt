-- How like a number and a text are, and two texts, by what two numbers are: as libphonenumber's
-- `isNumberMatch` tells, and as our own answer does.
use Rattle.std.specs.Prelude.{◌≡◌, ℕ, Bool, true, false, if◌then◌else◌, List, None, Some, Result}
use Rattle.std.specs.Prelude.{Ok, Err}
use Rattle.std.specs.Option.{option_and_then}
use Rattle.std.specs.Result.{result_map_both}
use Rattle.phone_values.specs.Ids.{id_of}
use Rattle.phone_values.specs.declared.country.Source.{Source}
use Rattle.phone_values.specs.declared.country.Source.TheVariants.{Default, Idd}
use Rattle.phone_values.specs.declared.error.ParseError.{ParseError}
use Rattle.phone_values.specs.declared.error.ParseError.TheVariants.{InvalidCountryCode}
use Rattle.phone_values.specs.declared.reading.Reading.{Reading}
use Rattle.phone_library.specs.Readings.{ReadsByLibrary, national_number}
use Rattle.phone_library_text.specs.Written.{IsWritten}
use Rattle.phone_library_text.specs.declared.written.WrittenNumber.{WrittenNumber}
use Rattle.phone_plans.specs.CodeLookUps.{first_of, territories}
use Rattle.phone_records.specs.declared.loader.Metadata.{Metadata}
use Rattle.phone_questions.specs.Matches.{match_of}
use Rattle.phone_questions.specs.declared.matches.NumberMatch.{NumberMatch}
use Rattle.phone_questions.specs.declared.matches.NumberMatch.TheVariants.{ExactMatch, NotANumber}
use Rattle.phone_questions.specs.declared.matches.NumberMatch.TheVariants.{NsnMatch}
use Rattle.phone_further.specs.Matches.{match_numbers}

-- the number of written digits, where no calling code is told: 0 stands for it
abbrev pub bare_number : Result WrittenNumber ParseError → Result Reading ParseError
bare_number (Ok w) = if w.has_plus then Err InvalidCountryCode else
    result_map_both (λ n. record {
      code = record { value = 0; source = Default };
      national = n;
      extension = w.extension;
      carrier = None;
    }) (λ e. e) (national_number w.digits)
bare_number (Err e) = Err e

-- what a text is without a calling code
pub record IsBare (t : List ℕ) (r : Result Reading ParseError) : Type 0 where
  pub written : Result WrittenNumber ParseError
  pub is_written : IsWritten t written
  pub read : r ≡ bare_number written

-- what a text without a code is beside a number of this code: as it is read in the code's main
-- region, or bare where the code isn't listed
pub data IsBeside (db : List Metadata) (code : ℕ) (t : List ℕ) : Result Reading ParseError →
    Type 0 where
  listed : (m : Metadata) (r : Result Reading ParseError) →
      first_of (territories code db) ≡ Some m →
      ReadsByLibrary db (option_and_then id_of m.id) t r → IsBeside db code t r
  unlisted : (r : Result Reading ParseError) → first_of (territories code db) ≡ None →
      IsBare t r → IsBeside db code t r

-- the code was guessed, so that no match is exact
abbrev pub unsure : NumberMatch → NumberMatch
unsure ExactMatch = NsnMatch
unsure m = m

-- how like two numbers are of which the second was read beside the first: as libphonenumber has it
abbrev pub match_unsure : Reading → Reading → NumberMatch
match_unsure n m = unsure (match_of n m)

-- the calling code stands in the text, behind an international prefix
abbrev pub is_behind_prefix : Source → Bool
is_behind_prefix Idd = true
is_behind_prefix source = false

-- our own answer: exact, too, where the code stands behind an international prefix
abbrev pub match_guessed : Reading → Reading → NumberMatch
match_guessed n m = if is_behind_prefix m.code.source then match_numbers n m
    else unsure (match_numbers n m)

-- how like a number is to what a text is read as, by what two numbers are
abbrev pub match_read : (Reading → Reading → NumberMatch) → Reading → Result Reading ParseError →
    NumberMatch
match_read like n (Ok m) = like n m
match_read like n (Err e) = NotANumber

-- how like a number and a text are, by what two numbers are, and by what one is to one that was
-- read beside it: as the text is read without a hint; where it tells no code, as it is read beside
-- the number
pub data IsTextMatch (like guessed : Reading → Reading → NumberMatch) (db : List Metadata)
    (n : Reading) (t : List ℕ) : NumberMatch → Type 0 where
  read : (m : Reading) → ReadsByLibrary db None t (Ok m) →
      IsTextMatch like guessed db n t (like n m)
  beside : (r : Result Reading ParseError) → ReadsByLibrary db None t (Err InvalidCountryCode) →
      IsBeside db n.code.value t r → IsTextMatch like guessed db n t (match_read guessed n r)
  refused : (e : ParseError) → ¬ (e ≡ InvalidCountryCode) → ReadsByLibrary db None t (Err e) →
      IsTextMatch like guessed db n t NotANumber

-- how like two texts without a calling code are, as they stand
pub data AreBareMatch (like : Reading → Reading → NumberMatch) (t u : List ℕ) : NumberMatch →
    Type 0 where
  both : (n : Reading) (r : Result Reading ParseError) → IsBare t (Ok n) → IsBare u r →
      AreBareMatch like t u (match_read like n r)
  refused : (e : ParseError) → IsBare t (Err e) → AreBareMatch like t u NotANumber

-- how like two texts are: by the first one that tells a code, beside the other; as they stand where
-- neither does
pub data AreTextsMatch (like guessed : Reading → Reading → NumberMatch) (db : List Metadata)
    (t u : List ℕ) : NumberMatch → Type 0 where
  first : (n : Reading) (x : NumberMatch) → ReadsByLibrary db None t (Ok n) →
      IsTextMatch like guessed db n u x → AreTextsMatch like guessed db t u x
  second : (n : Reading) (x : NumberMatch) → ReadsByLibrary db None t (Err InvalidCountryCode) →
      ReadsByLibrary db None u (Ok n) → IsTextMatch like guessed db n t x →
      AreTextsMatch like guessed db t u x
  neither : (x : NumberMatch) → ReadsByLibrary db None t (Err InvalidCountryCode) →
      ReadsByLibrary db None u (Err InvalidCountryCode) → AreBareMatch like t u x →
      AreTextsMatch like guessed db t u x
  first_refused : (e : ParseError) → ¬ (e ≡ InvalidCountryCode) →
      ReadsByLibrary db None t (Err e) → AreTextsMatch like guessed db t u NotANumber
  second_refused : (e : ParseError) → ¬ (e ≡ InvalidCountryCode) →
      ReadsByLibrary db None t (Err InvalidCountryCode) → ReadsByLibrary db None u (Err e) →
      AreTextsMatch like guessed db t u NotANumber
