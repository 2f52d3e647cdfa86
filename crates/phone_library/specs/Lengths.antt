-- What the count of national digits says of them in a territory: as libphonenumber has it.
use Rattle.std.specs.Prelude.{ℕ, nat_eq, Bool, true, false, if◌then◌else◌, List, [], length}
use Rattle.std.specs.List.{list_any}
use Rattle.std.specs.Option.{option_map_or}
use Rattle.phone_values.specs.declared.validator.Validation.{Validation}
use Rattle.phone_values.specs.declared.validator.Validation.TheVariants.{IsPossible, TooLong}
use Rattle.phone_values.specs.declared.validator.Validation.TheVariants.{IsPossibleLocalOnly}
use Rattle.phone_read.specs.Verdicts.{general_lengths, verdict}
use Rattle.phone_records.specs.declared.loader.Descriptor.{Descriptor}
use Rattle.phone_records.specs.declared.loader.Metadata.{Metadata}
use Rattle.std.specs.Prelude.{◌==◌}

-- the lengths that can be dialled only within an area
abbrev pub local_lengths : Metadata → List ℕ
local_lengths m = option_map_or (λ (d : Descriptor). d.possible_local_length) m.general []

-- the verdict by the lengths of numbers of any kind; where a territory lists none, each that isn't
-- local is possible
abbrev pub length_in : Metadata → ℕ → Validation
length_in m n =
    if nat_eq (length (general_lengths m)) 0
    then (if list_any (λ l. l == n) (local_lengths m) then IsPossibleLocalOnly else IsPossible)
    else verdict m n

-- more digits than each possible length
abbrev pub is_too_long : Validation → Bool
is_too_long TooLong = true
is_too_long _ = false

-- a number may be left with so many digits: a possible number, or too many
abbrev pub may_be_left : Validation → Bool
may_be_left IsPossible = true
may_be_left TooLong = true
may_be_left _ = false
