-- What a text is taken as where it is compared with another: perhaps a calling code, a national
-- number, perhaps an extension.
use Rattle.std.specs.Prelude.{◌≡◌, ◌||◌, ℕ, Bool, List, Option, None, Some, option_map, is_some}
use Rattle.std.specs.Prelude.{Result, Ok, Err, if◌then◌else◌}
use Rattle.std.specs.Result.{result_map_both}
use Rattle.phone_chars.specs.Characters.{is_plus}
use Rattle.phone_chars.specs.Norm.{norm}
use Rattle.phone_values.specs.Nsn.{nsn}
use Rattle.phone_values.specs.declared.error.ParseError.{ParseError}
use Rattle.phone_values.specs.declared.error.ParseError.TheVariants.{InvalidCountryCode}
use Rattle.phone_parts.specs.Parts.{Parts}
use Rattle.phone_parts.specs.Readers.{HasParts}
use Rattle.phone_parts.specs.Texts.{begins}
use Rattle.phone_library.specs.Readings.{national_number}
use Rattle.phone_library_text.specs.Written.{IsWritten}
use Rattle.phone_library_text.specs.declared.written.WrittenNumber.{WrittenNumber}
use Rattle.phone_engine.specs.Readings.{ReadsBy}
use Rattle.phone_values.specs.declared.rules.Rules.{Rules}
use Rattle.phone_values.specs.declared.rules.Rules.TheVariants.{Library, Crate}
use Rattle.phone_values.specs.declared.reading.Reading.{Reading}
use Rattle.phone_records.specs.declared.loader.Metadata.{Metadata}
use Rattle.phone_engine.specs.declared.sides.Side.{Side}

-- the text says a calling code: as a prefix, or after a plus sign
abbrev pub says_code : Parts → Bool
says_code p = is_some p.prefix || begins is_plus p.national

-- without a code, the digits as they are dialled are the national number
abbrev pub dialled_side : Parts → Result Side ParseError
dialled_side p =
    result_map_both (λ n. record {
      code = None;
      national = n;
      extension = option_map norm p.extension;
    }) (λ e. e) (nsn (norm p.national))

-- by the rules of the crate: a text that says none is taken as it is dialled
abbrev pub uncoded_side : Option Parts → Result Side ParseError
uncoded_side (Some p) = if says_code p then Err InvalidCountryCode else dialled_side p
uncoded_side None = Err InvalidCountryCode

-- a number that was read is taken with its code
abbrev pub side_of : Reading → Side
side_of n = record {
  code = Some n.code.value;
  national = n.national;
  extension = n.extension;
}

-- by those of libphonenumber: where no plus sign is written, the digits that are written are the
-- national number
abbrev pub written_side : Result WrittenNumber ParseError → Result Side ParseError
written_side (Ok w) = if w.has_plus then Err InvalidCountryCode else
    result_map_both (λ n. record {
      code = None;
      national = n;
      extension = w.extension;
    }) (λ e. e) (national_number w.digits)
written_side (Err e) = Err e

-- what a text without a listed code is taken as
abbrev pub IsDialled : Rules → List ℕ → Result Side ParseError → Type 0
IsDialled Library t s = (w : Result WrittenNumber ParseError) × IsWritten t w ×
    (s ≡ written_side w)
IsDialled Crate t s = (p : Option Parts) × HasParts t p × (s ≡ uncoded_side p)

-- what a text is taken as: what it is read as without a hint; where no listed code is found, as it
-- is dialled
pub data IsTaken (rules : Rules) (db : List Metadata) (t : List ℕ) : Result Side ParseError →
    Type 0 where
  read : (n : Reading) → ReadsBy rules db None t (Ok n) → IsTaken rules db t (Ok (side_of n))
  dialled : (s : Result Side ParseError) → ReadsBy rules db None t (Err InvalidCountryCode) →
      IsDialled rules t s → IsTaken rules db t s
  refused : (e : ParseError) → ¬ (e ≡ InvalidCountryCode) → ReadsBy rules db None t (Err e) →
      IsTaken rules db t (Err e)
