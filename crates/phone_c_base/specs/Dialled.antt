-- How a number that is given as plain numbers is dialled from a region.
use Rattle.std.specs.Prelude.{◌≡◌, ℕ, List, Result, Ok, Err, IsSomeAnd}
use Rattle.phone_values.specs.Ids.{id_of}
use Rattle.phone_values.specs.declared.reading.Reading.{Reading}
use Rattle.phone_records.specs.declared.loader.Metadata.{Metadata}
use Rattle.phone_engine.specs.Dialled.{dialled_text}
use Rattle.phone_engine.specs.declared.dialled.DialError.{DialError}
use Rattle.phone_c_base.specs.Numbers.{IsNumber}
use Rattle.phone_c_base.specs.declared.number.Number as plain

-- the bytes of the region are its id, the plain numbers and their bytes are a number, and this is
-- said of how it is dialled there
abbrev pub IsDialledAs : List Metadata → (region : List ℕ) → plain.Number → (bytes : List ℕ) →
    Result (List ℕ) DialError → Type 0
IsDialledAs db region x bytes said = IsSomeAnd (id_of region)
    (λ id. (n : Reading) × IsNumber x bytes n × (dialled_text db id n ≡ said))

-- it is dialled by this text
abbrev pub IsDialled : List Metadata → (region : List ℕ) → plain.Number → (bytes : List ℕ) →
    List ℕ → Type 0
IsDialled db region x bytes text = IsDialledAs db region x bytes (Ok text)

-- how it is dialled is refused for this
abbrev pub IsUndialled : List Metadata → (region : List ℕ) → plain.Number → (bytes : List ℕ) →
    DialError → Type 0
IsUndialled db region x bytes e = IsDialledAs db region x bytes (Err e)
