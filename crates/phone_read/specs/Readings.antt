-- What a text is read as: after the original's `parser`.
use Rattle.std.specs.Prelude.{◌≡◌, ℕ, ◌==◌, List, Option, None, Some, option_map, Result, Ok, Err}
use Rattle.phone_chars.specs.Norm.{norm}
use Rattle.phone_chars.specs.Cuts.{after_front}
use Rattle.phone_chars.specs.Viable.{IsViable}
use Rattle.phone_values.specs.declared.country.Id.{Id}
use Rattle.phone_values.specs.declared.error.ParseError.{ParseError}
use Rattle.phone_values.specs.declared.error.ParseError.TheVariants.{NoNumber}
use Rattle.phone_records.specs.declared.loader.Metadata.{Metadata}
use Rattle.phone_parts.specs.Parts.{Parts}
use Rattle.phone_parts.specs.Readers.{HasParts}
use Rattle.phone_read.specs.CallingCodes.{code_of}
use Rattle.phone_read.specs.Hints.{Coded, hinted}
use Rattle.phone_read.specs.Numbering.{reading_of}
use Rattle.phone_read.specs.Regions.{home}
use Rattle.phone_read.specs.Strips.{stripped}
use Rattle.phone_values.specs.declared.reading.Reading.{Reading}

-- digits without their leading zeros
abbrev pub without_zeros : List ℕ → List ℕ
without_zeros digits = after_front (λ d. d == 48) digits

-- the territory whose rules strip the digits: the hint's, or without a hint the home of the digits
-- without their leading zeros
abbrev pub stripping_territory : List Metadata → Option Id → Coded → Option Metadata
stripping_territory db (Some id) c = hinted db (Some id)
stripping_territory db None c = home db c.value (without_zeros c.rest)

-- what a text is read as under a database and a hint
pub data Reads (db : List Metadata) (hint : Option Id) (t : List ℕ) : Result Reading ParseError →
    Type 0 where
  no_parts : HasParts t None → Reads db hint t (Err NoNumber)
  not_viable : (p : Parts) → HasParts t (Some p) → ¬ (IsViable p.national) →
      Reads db hint t (Err NoNumber)
  no_code : (p : Parts) (e : ParseError) → HasParts t (Some p) → IsViable p.national →
      code_of db hint p.national p.prefix ≡ Err e → Reads db hint t (Err e)
  coded : (p : Parts) (c : Coded) → HasParts t (Some p) → IsViable p.national →
      code_of db hint p.national p.prefix ≡ Ok c →
      Reads db hint t (reading_of c (option_map norm p.extension)
      (stripped (stripping_territory db hint c) c.rest))
