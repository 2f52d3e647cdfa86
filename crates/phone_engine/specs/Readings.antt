-- What a text is read as, by whose rules.
use Rattle.std.specs.Prelude.{ℕ, List, Option, Result}
use Rattle.phone_values.specs.declared.country.Id.{Id}
use Rattle.phone_values.specs.declared.error.ParseError.{ParseError}
use Rattle.phone_values.specs.declared.reading.Reading.{Reading}
use Rattle.phone_library.specs.Readings.{ReadsByLibrary}
use Rattle.phone_read.specs.Readings.{Reads}
use Rattle.phone_records.specs.declared.loader.Metadata.{Metadata}
use Rattle.phone_values.specs.declared.rules.Rules.{Rules}
use Rattle.phone_values.specs.declared.rules.Rules.TheVariants.{Library, Crate}

-- a text is read so under a database and a hint, by the rules of libphonenumber or of the crate
abbrev pub ReadsBy : Rules → List Metadata → Option Id → List ℕ → Result Reading ParseError → Type 0
ReadsBy Library db hint t r = ReadsByLibrary db hint t r
ReadsBy Crate db hint t r = Reads db hint t r
