-- Texts in which the same number is written are read alike.
use Rattle.std.proofs.Common.{ℕ, List, Option, Result, Ok, Err}
use Rattle.phone_values.specs.declared.country.Id.{Id}
use Rattle.phone_values.specs.declared.error.ParseError.{ParseError}
use Rattle.phone_values.specs.declared.reading.Reading.{Reading}
use Rattle.phone_library.specs.Readings
use Rattle.phone_library.specs.Readings.{ReadsByLibrary}
use Rattle.phone_library_text.specs.Written.{IsWritten}
use Rattle.phone_library_text.specs.declared.written.WrittenNumber.{WrittenNumber}
use Rattle.phone_records.specs.declared.loader.Metadata.{Metadata}

pub read_alike : (db : List Metadata) (hint : Option Id) (s t : List ℕ) → ((w : Result WrittenNumber ParseError) → IsWritten s w → IsWritten t w) →
    (r : Result Reading ParseError) → ReadsByLibrary db hint s r → ReadsByLibrary db hint t r
read_alike db hint s t same _ (Readings.refused e h) = Readings.refused e (same (Err e) h)
read_alike db hint s t same _ (Readings.written w h) = Readings.written w (same (Ok w) h)
