-- Numbers that were read, by the crate's rules or by libphonenumber's.
use Rattle.std.specs.Prelude.{ℕ, List, Option, Ok}
use Rattle.phone_values.specs.declared.country.Id.{Id}
use Rattle.phone_values.specs.declared.reading.Reading.{Reading}
use Rattle.phone_library.specs.Readings.{ReadsByLibrary}
use Rattle.phone_read.specs.Readings.{Reads}
use Rattle.phone_records.specs.declared.loader.Metadata.{Metadata}

-- by either rules, under some hint, some text is read as the number
pub data IsReadByEither (db : List Metadata) (n : Reading) : Type 0 where
  by_crate : (hint : Option Id) (text : List ℕ) → Reads db hint text (Ok n) → IsReadByEither db n
  by_library : (hint : Option Id) (text : List ℕ) → ReadsByLibrary db hint text (Ok n) →
      IsReadByEither db n
