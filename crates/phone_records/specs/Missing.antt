-- What every record must have, and which of it is missing first: after the original's
-- `metadata/database`.
use Rattle.std.specs.Prelude.{ℕ, List, [], ◌∷◌, map, Option, Some, None, codes}
use Rattle.std.specs.Option.{option_or}
use Rattle.phone_records.specs.declared.loader.Descriptor.{Descriptor}
use Rattle.phone_records.specs.declared.loader.Format.{Format}
use Rattle.phone_records.specs.declared.loader.Metadata.{Metadata}
use Rattle.phone_records.specs.declared.missing.Missing.{Missing}
use Rattle.phone_records.specs.declared.missing.Missing.TheVariants as lack

-- the kind of record that lacks the value
abbrev pub phase_of : Missing → List ℕ
phase_of lack.General = codes "metadata"
phase_of lack.NationalNumber = codes "descriptor"
phase_of lack.Id = codes "metadata"
phase_of lack.CountryCode = codes "metadata"
phase_of lack.Pattern = codes "format"
phase_of lack.Template = codes "format"

-- the name of the value
abbrev pub name_of : Missing → List ℕ
name_of lack.General = codes "generalDesc"
name_of lack.NationalNumber = codes "national_number"
name_of lack.Id = codes "id"
name_of lack.CountryCode = codes "countryCode"
name_of lack.Pattern = codes "pattern"
name_of lack.Template = codes "format"

-- a value that must be there is missing where it is none
abbrev pub missing_if_none : {X : Type 0} → Missing → Option X → Option Missing
missing_if_none missing None = Some missing
missing_if_none missing (Some x) = None

-- the first that is given, of a list of answers
abbrev pub first_given : {X : Type 0} → List (Option X) → Option X
first_given [] = None
first_given (x ∷ xs) = option_or x (first_given xs)

-- a descriptor that is there must have a pattern
abbrev pub missing_in_descriptor : Option Descriptor → Option Missing
missing_in_descriptor None = None
missing_in_descriptor (Some d) = missing_if_none lack.NationalNumber d.national_number

-- a layout must have a pattern and a template
abbrev pub missing_in_format : Format → Option Missing
missing_in_format f = option_or (missing_if_none lack.Pattern f.pattern)
    (missing_if_none lack.Template f.format)

-- the descriptors of a territory, in the order of their declaration
abbrev pub descriptors_of : Metadata → List (Option Descriptor)
descriptors_of m =
    m.general ∷ m.fixed_line ∷ m.mobile ∷ m.toll_free ∷ m.premium_rate ∷ m.shared_cost ∷
    m.personal_number ∷ m.voip
    ∷ m.pager ∷ m.uan ∷ m.emergency ∷ m.voicemail ∷ m.short_code ∷ m.standard_rate ∷ m.carrier ∷
    m.no_international ∷ []

-- what a territory lacks of each thing that it must have: a general descriptor, the patterns of its
-- descriptors, an id, a calling code, and whole layouts
abbrev pub lacks_of : Metadata → List (Option Missing)
lacks_of m =
    missing_if_none lack.General m.general
    ∷ first_given (map missing_in_descriptor (descriptors_of m))
    ∷ missing_if_none lack.Id m.id
    ∷ missing_if_none lack.CountryCode m.country_code
    ∷ first_given (map missing_in_format m.formats)
    ∷ first_given (map missing_in_format m.international_formats)
    ∷ []

-- the first of these
unfoldable pub missing_in : Metadata → Option Missing
missing_in m = first_given (lacks_of m)

-- the first missing value over all records, in their order
abbrev pub first_missing : List Metadata → Option Missing
first_missing db = first_given (map missing_in db)
