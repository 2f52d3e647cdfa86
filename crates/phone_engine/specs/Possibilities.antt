-- Whether a number is possible: what its length alone says of it.
use Rattle.std.specs.Prelude.{ℕ, ◌==◌, nat_lt, not, Bool, false, if◌then◌else◌, List, [], ◌∷◌}
use Rattle.std.specs.Prelude.{length, Option, Result, Ok, Err}
use Rattle.std.specs.List.{filter_map, flat_map, list_all, list_any}
use Rattle.std.specs.Option.{option_map_or, option_or}
use Rattle.phone_values.specs.Numbers.{text_of}
use Rattle.phone_values.specs.declared.error.ParseError.{ParseError}
use Rattle.phone_values.specs.declared.error.ParseError.TheVariants as error
use Rattle.phone_values.specs.declared.kind.«Type».{«Type»}
use Rattle.phone_values.specs.declared.validator.Validation.{Validation}
use Rattle.phone_values.specs.declared.validator.Validation.TheVariants as validation
use Rattle.phone_library.specs.Lengths.{length_in}
use Rattle.phone_plans.specs.CodeLookUps.{first_of, territories}
use Rattle.phone_territory.specs.Kinds.{descriptor_for, kinds_of}
use Rattle.phone_records.specs.declared.loader.Descriptor.{Descriptor}
use Rattle.phone_records.specs.declared.loader.Metadata.{Metadata}
use Rattle.phone_read.specs.Regions.{home}
use Rattle.phone_read.specs.Kinds.{tried_kinds, type_of}
use Rattle.phone_values.specs.declared.reading.Reading.{Reading}
use Rattle.phone_values.specs.declared.rules.Rules.{Rules}
use Rattle.phone_values.specs.declared.rules.Rules.TheVariants.{Library, Crate}
use Rattle.phone_engine.specs.declared.possibilities.Possibility.{Possibility}
use Rattle.phone_engine.specs.declared.possibilities.Possibility.TheVariants.{Possible}
use Rattle.phone_engine.specs.declared.possibilities.Possibility.TheVariants.{PossibleLocally}
use Rattle.phone_engine.specs.declared.possibilities.Possibility.TheVariants.{TooShort, TooLong}
use Rattle.phone_engine.specs.declared.possibilities.Possibility.TheVariants.{WrongLength}
use Rattle.phone_engine.specs.declared.possibilities.Possibility.TheVariants.{UnknownCode}

-- a descriptor lists the lengths of its numbers
abbrev pub lists_lengths : Descriptor → Bool
lists_lengths d = not (length d.possible_length == 0)

-- the descriptors of the kinds that a number is told to be of
abbrev pub kind_descriptors : Metadata → List Descriptor
kind_descriptors m = filter_map (λ (k : «Type» × Option Descriptor). k.1) (tried_kinds m)

-- the descriptors whose lengths count: the general one where it lists any, else those of the
-- kinds
abbrev pub counting_descriptors : Metadata → List Descriptor
counting_descriptors m = option_map_or
    (λ (d : Descriptor). if lists_lengths d then d ∷ [] else kind_descriptors m) m.general
    (kind_descriptors m)

-- the lengths of a territory's numbers
abbrev pub lengths_of : Metadata → List ℕ
lengths_of m = flat_map (λ (d : Descriptor). d.possible_length) (counting_descriptors m)

-- the lengths that suffice inside an area
abbrev pub local_lengths_of : Metadata → List ℕ
local_lengths_of m = flat_map (λ (d : Descriptor). d.possible_local_length) (counting_descriptors m)

-- a length is among these
abbrev pub is_among : ℕ → List ℕ → Bool
is_among n lengths = list_any (λ l. l == n) lengths

-- what a length says: it is one of the lengths, or one of the local ones; else it is shorter than
-- each of the lengths, longer than each, or between them; where none is listed, it is wrong
abbrev pub possibility_by : (lengths local : List ℕ) → ℕ → Possibility
possibility_by lengths local n =
    if is_among n lengths then Possible
    else if is_among n local then PossibleLocally
    else if length lengths == 0 then WrongLength
    else if list_all (λ l. nat_lt n l) lengths then TooShort
    else if list_all (λ l. nat_lt l n) lengths then TooLong
    else WrongLength

-- the same, under a territory
abbrev pub possibility_under : Metadata → ℕ → Possibility
possibility_under m n = possibility_by (lengths_of m) (local_lengths_of m) n

-- the territory whose lengths count: the home of the digits, else the first of the calling code
abbrev pub counting_territory : List Metadata → Reading → Option Metadata
counting_territory db n = option_or (home db n.code.value (text_of n.national))
    (first_of (territories n.code.value db))

-- by the rules of the crate: what the count of a number's digits, with its leading zeros, says
-- under that territory
abbrev pub possibility_by_crate : List Metadata → Reading → Possibility
possibility_by_crate db n = option_map_or
    (λ (m : Metadata). possibility_under m (length (text_of n.national)))
    (counting_territory db n) UnknownCode

-- a verdict on a length, as it is said of a number
abbrev pub verdict_said : Validation → Possibility
verdict_said validation.IsPossible = Possible
verdict_said validation.IsPossibleLocalOnly = PossibleLocally
verdict_said validation.TooShort = TooShort
verdict_said validation.TooLong = TooLong
verdict_said validation.InvalidLength = WrongLength
verdict_said validation.InvalidCountryCode = UnknownCode

-- by the rules of libphonenumber: what the same count says by the general lengths of the first
-- territory of the calling code
abbrev pub possibility_by_library : List Metadata → Reading → Possibility
possibility_by_library db n = option_map_or
    (λ (m : Metadata). verdict_said (length_in m (length (text_of n.national))))
    (first_of (territories n.code.value db)) UnknownCode

-- whether a number is possible, by the rules of either
abbrev pub possibility_of : Rules → List Metadata → Reading → Possibility
possibility_of Library db n = possibility_by_library db n
possibility_of Crate db n = possibility_by_crate db n

-- what is said of a text that is read so: refusals for its length and for its code are answers
abbrev pub possibility_read : Rules → List Metadata → Result Reading ParseError →
    Result Possibility ParseError
possibility_read rules db (Ok n) = Ok (possibility_of rules db n)
possibility_read rules db (Err error.InvalidCountryCode) = Ok UnknownCode
possibility_read rules db (Err error.TooShortAfterIdd) = Ok TooShort
possibility_read rules db (Err error.TooShortNsn) = Ok TooShort
possibility_read rules db (Err error.TooLong) = Ok TooLong
possibility_read rules db (Err error.NoNumber) = Err error.NoNumber
possibility_read rules db (Err error.MalformedInteger) = Err error.MalformedInteger
possibility_read rules db (Err error.Memory) = Err error.Memory

-- the kind that the number's digits are of, in their home, lists its lengths
abbrev pub has_listed_kind : List Metadata → Reading → Bool
has_listed_kind db n = option_map_or
    (λ (m : Metadata). option_map_or lists_lengths
    (descriptor_for (type_of m (text_of n.national)) (kinds_of m)) false)
    (home db n.code.value (text_of n.national)) false
