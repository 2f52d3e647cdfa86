-- What digits are among the short numbers of a region, by the region's record: as libphonenumber
-- has it.
use Rattle.std.specs.Prelude.{ℕ, ◌==◌, ◌&&◌, Bool, false, List, length, Option}
use Rattle.std.specs.List.{list_any}
use Rattle.std.specs.Option.{option_map_or}
use Rattle.phone_records.specs.declared.loader.Descriptor.{Descriptor}
use Rattle.phone_records.specs.declared.loader.Metadata.{Metadata}
use Rattle.phone_territory.specs.First.{is_whole_match}
use Rattle.phone_territory.specs.Records.{allows_length, pattern_of}

-- a descriptor has digits: it is there, allows their count, and its pattern matches all of them
abbrev pub has_number : Option Descriptor → List ℕ → Bool
has_number d digits = option_map_or (λ d. allows_length d (length digits) &&
    is_whole_match (pattern_of d) digits) d false

-- digits are possible where the general descriptor lists their count
abbrev pub is_possible : Metadata → List ℕ → Bool
is_possible m digits = option_map_or
    (λ (d : Descriptor). list_any (λ n. n == length digits) d.possible_length) m.general false

-- they are valid where they are possible, and both the general descriptor and that of short codes
-- have them
abbrev pub is_valid : Metadata → List ℕ → Bool
is_valid m digits = is_possible m digits &&
    (has_number m.general digits && has_number m.short_code digits)

-- only some carriers connect them where the carriers' descriptor has them
abbrev pub is_carrier_specific : Metadata → List ℕ → Bool
is_carrier_specific m digits = has_number m.carrier digits
