use Rattle.std.proofs.Common.{ℕ, List, Option, Result, chars}
use Rattle.phone_values.specs.declared.country.Id.{Id}
use Rattle.phone_values.specs.declared.error.ParseError.{ParseError}
use Rattle.phone_values.specs.declared.reading.Reading.{Reading}
use Rattle.phone_library.specs.Readings.{ReadsByLibrary}
use Rattle.phone_read.specs.Readings.{Reads}
use Rattle.phone_records.specs.declared.loader.Metadata.{Metadata}
use Rattle.phone_engine.specs.Readings.{ReadsBy}
use Rattle.phone_values.specs.declared.rules.Rules.{Rules}
use Rattle.phone_values.specs.declared.rules.Rules.TheVariants.{Library, Crate}
use Rattle.phone_engine.proofs.laws.some_reading.Goals as goal

either : (rules : Rules) (db : List Metadata) (hint : Option Id) (t : List ℕ) → (r : Result Reading ParseError) × Reads db hint t r →
    (r : Result Reading ParseError) × ReadsByLibrary db hint t r → (r : Result Reading ParseError) × ReadsBy rules db hint t r
either Library db hint t first second = second
either Crate db hint t first second = first

pub returns : goal.returns
returns c rules db hint =
    let t = chars c.args.text.now in
    either rules db hint t (c.some_reading.ensures db hint) (c.some_reading-2.ensures db hint t)
