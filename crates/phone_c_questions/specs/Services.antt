-- Whether a number that is given as plain numbers is an SMS service.
use Rattle.std.specs.Prelude.{◌≡◌, ℕ, List, IsSomeAnd}
use Rattle.phone_values.specs.Ids.{id_of}
use Rattle.phone_values.specs.declared.reading.Reading.{Reading}
use Rattle.phone_records.specs.declared.loader.Metadata.{Metadata}
use Rattle.phone_further.specs.Services.{is_sms_service}
use Rattle.phone_c_base.specs.Numbers.{HasNumbers}
use Rattle.phone_c_base.specs.ShortNumbers.{flag}
use Rattle.phone_c_base.specs.declared.number.Number as plain

-- the bytes are a region's id; 1 where the number that has these plain numbers is an SMS service of
-- it by the table of these services, else 0
abbrev pub IsServiceOf : (db sms : List Metadata) → (region : List ℕ) → plain.Number → ℕ → Type 0
IsServiceOf db sms region x told = IsSomeAnd (id_of region)
    (λ id. (n : Reading) × HasNumbers x n × (told ≡ flag (is_sms_service db sms id n)))
