-- What the count of a number's digits says of it as a number of a kind: as libphonenumber has it.
use Rattle.std.specs.Prelude.{ℕ, ◌==◌, ◌||◌, nat_lt, Bool, if◌then◌else◌, List, [], ◌∷◌, length}
use Rattle.std.specs.Prelude.{Option}
use Rattle.std.specs.List.{filter_map, flat_map, list_all, list_any}
use Rattle.std.specs.Option.{option_map_or}
use Rattle.phone_values.specs.Numbers.{text_of}
use Rattle.phone_values.specs.declared.kind.«Type».{«Type»}
use Rattle.phone_values.specs.declared.kind.«Type».TheVariants.{FixedLine, FixedLineOrMobile}
use Rattle.phone_values.specs.declared.kind.«Type».TheVariants.{Mobile}
use Rattle.phone_values.specs.declared.reading.Reading.{Reading}
use Rattle.phone_values.specs.declared.validator.Validation.{Validation}
use Rattle.phone_values.specs.declared.validator.Validation.TheVariants.{InvalidCountryCode}
use Rattle.phone_values.specs.declared.validator.Validation.TheVariants.{InvalidLength}
use Rattle.phone_values.specs.declared.validator.Validation.TheVariants.{IsPossible}
use Rattle.phone_values.specs.declared.validator.Validation.TheVariants.{IsPossibleLocalOnly}
use Rattle.phone_values.specs.declared.validator.Validation.TheVariants.{TooLong, TooShort}
use Rattle.phone_plans.specs.CodeLookUps.{first_of, territories}
use Rattle.phone_records.specs.declared.loader.Descriptor.{Descriptor}
use Rattle.phone_records.specs.declared.loader.Metadata.{Metadata}
use Rattle.phone_read.specs.Verdicts.{general_lengths}
use Rattle.phone_territory.specs.Kinds.{descriptor_for, kinds_of}

-- the kinds that a kind means: fixed line or mobile means both
abbrev pub kinds_meant : «Type» → List «Type»
kinds_meant FixedLineOrMobile = FixedLine ∷ Mobile ∷ []
kinds_meant kind = kind ∷ []

-- the descriptors that a territory has of a kind
abbrev pub descriptors_of : Metadata → «Type» → List Descriptor
descriptors_of m kind = filter_map (λ k. descriptor_for k (kinds_of m)) (kinds_meant kind)

-- the lengths of a descriptor's numbers: the general ones where it lists none
abbrev pub lengths_by : Metadata → Descriptor → List ℕ
lengths_by m d = if length d.possible_length == 0 then general_lengths m else d.possible_length

-- a length is among these
abbrev pub is_among : ℕ → List ℕ → Bool
is_among n lengths = list_any (λ l. l == n) lengths

-- what a length says: it suffices within an area; it is allowed; it is less than each that is
-- listed, more than each, or between them
abbrev pub verdict_told : (local allowed less more : Bool) → Validation
verdict_told local allowed less more =
    if local then IsPossibleLocalOnly
    else if allowed then IsPossible
    else if less then TooShort
    else if more then TooLong
    else InvalidLength

-- the same by lengths: one that is listed is allowed, and each where none is
abbrev pub verdict_on : (lengths local : List ℕ) → ℕ → Validation
verdict_on lengths local n = verdict_told (is_among n local)
    ((length lengths == 0) || is_among n lengths)
    (list_all (λ l. nat_lt n l) lengths) (list_all (λ l. nat_lt l n) lengths)

-- the same by the lengths of descriptors; without a descriptor no length is valid
abbrev pub verdict_by : Metadata → List Descriptor → ℕ → Validation
verdict_by m [] n = InvalidLength
verdict_by m (d ∷ ds) n =
    verdict_on (flat_map (lengths_by m) (d ∷ ds))
    (flat_map (λ (d : Descriptor). d.possible_local_length) (d ∷ ds)) n

-- what so many digits are as a number of a kind in a territory; of an unknown kind the general
-- descriptor tells
abbrev pub verdict_in : «Type» → ℕ → Metadata → Validation
verdict_in kind n m = verdict_by m (descriptors_of m kind) n

-- what the count of a number's digits, its leading zeros included, says of it as a number of a
-- kind: by the first territory of its calling code
abbrev pub possibility_as : List Metadata → «Type» → Reading → Validation
possibility_as db kind n = option_map_or (verdict_in kind (length (text_of n.national)))
    (first_of (territories n.code.value db)) InvalidCountryCode
