-- SMS services: short numbers to which messages are sent. A table of their own lists them: of each
-- region that has some it has a record, whose general descriptor is that of its services.
use Rattle.std.specs.Prelude.{ℕ, ◌&&◌, Bool, false, List, filter, is_some, Option}
use Rattle.std.specs.List.{find}
use Rattle.std.specs.Option.{option_map_or}
use Rattle.phone_values.specs.Ids.{name}
use Rattle.phone_values.specs.Numbers.{text_of}
use Rattle.phone_values.specs.declared.country.Id.{Id}
use Rattle.phone_values.specs.declared.reading.Reading.{Reading}
use Rattle.phone_plans.specs.Records.{has_code, has_id}
use Rattle.phone_records.specs.declared.loader.Metadata.{Metadata}
use Rattle.phone_short.specs.Numbers.{has_number}
use Rattle.phone_short.specs.Regions.{record_of}

-- the territory with an id among those of a calling code: the earliest
abbrev pub territory_with : List Metadata → List ℕ → ℕ → Option Metadata
territory_with db id code = find (has_id id) (filter (has_code code) db)

-- a region has a territory of a calling code
abbrev pub is_of_code : List Metadata → Id → ℕ → Bool
is_of_code db region code = is_some (territory_with db (name region) code)

-- digits are one of a region's services, by the table of these
abbrev pub has_service : List Metadata → Id → List ℕ → Bool
has_service sms region digits = option_map_or (λ (m : Metadata). has_number m.general digits)
    (record_of sms region) false

-- a number is an SMS service of a region of its calling code
abbrev pub is_sms_service : (db sms : List Metadata) → Id → Reading → Bool
is_sms_service db sms region n = is_of_code db region n.code.value &&
    has_service sms region (text_of n.national)
