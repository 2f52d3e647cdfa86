-- How a number is written in a text: as libphonenumber reads it.
use Rattle.std.specs.Prelude.{ℕ, ◌≤◌, ◌<◌, List, length, Option, None, Some, option_map, Result, Ok}
use Rattle.std.specs.Prelude.{Err, encode_utf8_all}
use Rattle.phone_chars.specs.Characters.{is_plus}
use Rattle.phone_values.specs.declared.error.ParseError.{ParseError}
use Rattle.phone_values.specs.declared.error.ParseError.TheVariants.{NoNumber, TooLong}
use Rattle.phone_parts.specs.Texts.{begins}
use Rattle.phone_library_text.specs.Letters.{digits_in}
use Rattle.phone_library_text.specs.NumberTexts.{HasNumberText}
use Rattle.phone_library_text.specs.Viable.{HasNumber, IsViable}
use Rattle.phone_library_text.specs.declared.written.WrittenNumber.{WrittenNumber}

-- a text of more characters is too long
abbrev pub most_characters : ℕ
most_characters = 250

-- how a number is written that has this text: whether it begins with a plus sign, its digits, and
-- its extension as it stands, all as bytes; or that it is none
pub data IsWrittenIn (n : List ℕ) : Result WrittenNumber ParseError → Type 0 where
  not_viable : ¬ (IsViable n) → IsWrittenIn n (Err NoNumber)
  number : (front : List ℕ) (extension : Option (List ℕ)) → IsViable n →
      HasNumber n front extension → IsWrittenIn n
      (Ok (record {
        has_plus = begins is_plus n;
        digits = digits_in front;
        extension = option_map encode_utf8_all extension;
      }))

-- what is written in a text, or why there is no number in it
pub data IsWritten (t : List ℕ) : Result WrittenNumber ParseError → Type 0 where
  too_long : most_characters < length t → IsWritten t (Err TooLong)
  nothing : length t ≤ most_characters → HasNumberText t None → IsWritten t (Err NoNumber)
  something : (n : List ℕ) (w : Result WrittenNumber ParseError) → length t ≤ most_characters →
      HasNumberText t (Some n) → IsWrittenIn n w → IsWritten t w
