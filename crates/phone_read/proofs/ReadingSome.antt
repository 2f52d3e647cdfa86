-- A text whose parts are known has a reading.
use Rattle.std.proofs.Common.{◌≡◌, ◌↔◌, Bool, true, false, IsTrue, List, ℕ, Option, option_map, Some, Result, Ok, Err, refl, true≢false, sym}
use Rattle.phone_chars.specs.Norm.{norm}
use Rattle.phone_chars.specs.Viable.{IsViable}
use Rattle.phone_values.specs.declared.country.Id.{Id}
use Rattle.phone_values.specs.declared.error.ParseError.{ParseError}
use Rattle.phone_values.specs.declared.error.ParseError.TheVariants.{NoNumber}
use Rattle.phone_records.specs.declared.loader.Metadata.{Metadata}
use Rattle.phone_read.specs.CallingCodes.{code_of}
use Rattle.phone_read.specs.Hints.{Coded}
use Rattle.phone_read.specs.Numbering.{reading_of}
use Rattle.phone_parts.specs.Readers.{HasParts}
use Rattle.phone_read.specs.Readings
use Rattle.phone_read.specs.Readings.{Reads, stripping_territory}
use Rattle.phone_read.specs.Strips.{stripped}
use Rattle.phone_parts.specs.Parts.{Parts}
use Rattle.phone_values.specs.declared.reading.Reading.{Reading}

pub some_of_parts : (db : List Metadata) (hint : Option Id) (t : List ℕ) (p : Parts) → HasParts t (Some p) → (viable : Bool) →
    (IsTrue viable ↔ IsViable p.national) → (r : Result Reading ParseError) × Reads db hint t r
some_of_parts db hint t p h false told = (Err NoNumber, Readings.not_viable p h (λ v. true≢false (sym (told.1 v))))
some_of_parts db hint t p h true told = by_code (code_of db hint p.national p.prefix) refl
  where
    by_code : (o : Result Coded ParseError) → code_of db hint p.national p.prefix ≡ o → (r : Result Reading ParseError) × Reads db hint t r
    by_code (Err e) f = (Err e, Readings.no_code p e h (told.0 refl) f)
    by_code (Ok c) f = (reading_of c (option_map norm p.extension) (stripped (stripping_territory db hint c) c.rest), Readings.coded p c h (told.0 refl) f)
