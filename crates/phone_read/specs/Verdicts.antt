-- What the length of a national number says of it, by the possible lengths: after the original's
-- `validator`.
use Rattle.std.specs.Prelude.{ℕ, ◌==◌, nat_lt, nat_eq, length, Bool, true, false, if◌then◌else◌}
use Rattle.std.specs.Prelude.{List, [], ◌∷◌, Option, None, Some}
use Rattle.std.specs.List.{list_any}
use Rattle.std.specs.Option.{option_map_or}
use Rattle.phone_values.specs.declared.kind.«Type».{«Type»}
use Rattle.phone_values.specs.declared.kind.«Type».TheVariants.{Unknown}
use Rattle.phone_values.specs.declared.validator.Validation.{Validation}
use Rattle.phone_values.specs.declared.validator.Validation.TheVariants.{IsPossible}
use Rattle.phone_values.specs.declared.validator.Validation.TheVariants.{IsPossibleLocalOnly}
use Rattle.phone_values.specs.declared.validator.Validation.TheVariants.{TooShort, InvalidLength}
use Rattle.phone_values.specs.declared.validator.Validation.TheVariants.{TooLong}
use Rattle.phone_territory.specs.Kinds.{descriptor_for, kinds_of}
use Rattle.phone_records.specs.declared.loader.Descriptor.{Descriptor}
use Rattle.phone_records.specs.declared.loader.Metadata.{Metadata}

-- the last of the lengths, as they stand; `least` where no more follow it
abbrev pub last_of : ℕ → List ℕ → ℕ
last_of least [] = least
last_of least (n ∷ more) = last_of n more

-- the verdict on a length n by the general lengths and the local ones: the first and the last
-- general length count as least and greatest, whatever stands between them
abbrev pub verdict_by : List ℕ → List ℕ → ℕ → Validation
verdict_by [] local n = InvalidLength
verdict_by (least ∷ more) local n =
    if list_any (λ l. l == n) local then IsPossibleLocalOnly
    else if n == least then IsPossible
    else if nat_lt n least then TooShort
    else if nat_lt (last_of least more) n then TooLong
    else if list_any (λ l. l == n) more then IsPossible
    else InvalidLength

-- no verdict but `InvalidLength` without a descriptor, or by one that lists no length
abbrev pub verdict_of : List ℕ → Option Descriptor → ℕ → Validation
verdict_of general None n = InvalidLength
verdict_of general (Some d) n = if nat_eq (length d.possible_length) 0 then InvalidLength
    else verdict_by general d.possible_local_length n

-- the lengths of a territory's numbers of any kind
abbrev pub general_lengths : Metadata → List ℕ
general_lengths m = option_map_or (λ (d : Descriptor). d.possible_length) m.general []

-- the verdict on a number of a kind
abbrev pub verdict_for : Metadata → «Type» → ℕ → Validation
verdict_for m kind n = verdict_of (general_lengths m) (descriptor_for kind (kinds_of m)) n

-- the verdict whatever the kind of the number
abbrev pub verdict : Metadata → ℕ → Validation
verdict m n = verdict_for m Unknown n

-- fewer digits than the first length that the territory lists
abbrev pub is_too_short : Validation → Bool
is_too_short TooShort = true
is_too_short _ = false
