-- Letters of a text that reading turned into digits.
use Rattle.std.specs.Prelude.{◌≡◌, ◌<◌, ℕ, true, List, length, Ok, Some}
use Rattle.std.specs.List.{filter_map, list_any}
use Rattle.phone_chars.specs.Characters.{is_alpha}
use Rattle.phone_library_text.specs.Letters.{value_of}
use Rattle.phone_library_text.specs.Written.{IsWritten}
use Rattle.phone_library_text.specs.declared.written.WrittenNumber.{WrittenNumber}
use Rattle.phone_parts.specs.Parts.{Parts}
use Rattle.phone_parts.specs.Readers.{HasParts}
use Rattle.phone_values.specs.declared.rules.Rules.{Rules}
use Rattle.phone_values.specs.declared.rules.Rules.TheVariants.{Library, Crate}

-- letters of a text stand for digits: by libphonenumber's rules the number is written with more
-- digits than the text has; by the crate's a letter stands in the national part, where each counts
pub data HasLetters (t : List ℕ) : Rules → Type 0 where
  library : (w : WrittenNumber) → IsWritten t (Ok w) →
      length (filter_map value_of t) < length w.digits → HasLetters t Library
  crate : (p : Parts) → HasParts t (Some p) → list_any is_alpha p.national ≡ true →
      HasLetters t Crate
