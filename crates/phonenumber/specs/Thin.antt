-- The first path, kept as a small picture of the whole reading: texts without signs, letters or
-- extension, under one territory that has no pattern but the general one. On these it is the
-- reading relation.
use Rattle.std.specs.Prelude.{◌≡◌, ℕ, ◌==◌, ◌||◌, ◌&&◌, Bool, true, if◌then◌else◌, List, [], ◌∷◌}
use Rattle.std.specs.Prelude.{length, Option, None, Some, Result, Err}
use Rattle.std.specs.List.{list_all}
use Rattle.phone_chars.specs.Characters.{is_digit}
use Rattle.phone_chars.specs.Norm.{norm}
use Rattle.phone_chars.specs.Viable.{IsViable}
use Rattle.phone_values.specs.declared.country.Id.{Id}
use Rattle.phone_values.specs.declared.error.ParseError.{ParseError}
use Rattle.phone_values.specs.declared.error.ParseError.TheVariants.{NoNumber, InvalidCountryCode}
use Rattle.phone_records.specs.Empty.{no_metadata}
use Rattle.phone_records.specs.declared.loader.Descriptor.{Descriptor}
use Rattle.phone_records.specs.declared.loader.Metadata.{Metadata}
use Rattle.phone_read.specs.Hints.{Coded, code_by_hint, hinted}
use Rattle.phone_read.specs.Numbering.{reading_of}
use Rattle.phone_parts.specs.Texts.{ends, without_front}
use Rattle.phone_read.specs.Verdicts.{verdict, is_too_short}
use Rattle.phone_values.specs.declared.reading.Reading.{Reading}

-- one record, which has a general descriptor, an id, a calling code and perhaps a national prefix,
-- and nothing else
pub record IsThinDatabase (db : List Metadata) : Type 0 where
  pub general : Descriptor
  pub id : List ℕ
  pub code : ℕ
  pub national_prefix : Option (List ℕ)
  pub whole : db ≡ record no_metadata {
    general = Some general;
    id = Some id;
    country_code = Some code;
    national_prefix = national_prefix;
  } ∷ []

-- digits, hyphens and spaces
abbrev pub is_thin_char : ℕ → Bool
is_thin_char c = is_digit c || (c == 45) || (c == 32)

-- nothing, or digits, hyphens and spaces that begin and end with a digit
abbrev pub is_thin : List ℕ → Bool
is_thin [] = true
is_thin (c ∷ cs) = is_digit c && (ends is_digit (c ∷ cs) && list_all is_thin_char (c ∷ cs))

-- the national prefix is cut off, and once more where it stands twice; all digits stay where too
-- few would be left
abbrev pub thin_rest : Metadata → List ℕ → List ℕ
thin_rest m digits =
    let rest = without_front m.national_prefix (without_front m.national_prefix digits) in
    if is_too_short (verdict m (length rest)) then digits else rest

-- the number of a code and the digits that stripping leaves; it has neither extension nor carrier
abbrev pub thin_reading : Metadata → Coded → Result Reading ParseError
thin_reading m c = reading_of c None (record { national = thin_rest m c.rest; carrier = None })

-- what a thin text is read as under a thin database: it is its own national part, and its code is
-- the hint's
pub data ThinReads (db : List Metadata) (hint : Option Id) (t : List ℕ) : Result Reading
    ParseError → Type 0 where
  not_viable : ¬ (IsViable t) → ThinReads db hint t (Err NoNumber)
  no_territory : IsViable t → hinted db hint ≡ None → ThinReads db hint t (Err InvalidCountryCode)
  by_hint : (m : Metadata) → IsViable t → hinted db hint ≡ Some m →
      ThinReads db hint t (thin_reading m (code_by_hint m (norm t)))
