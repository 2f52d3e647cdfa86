-- The two forms in which the records of a table are handed over as bytes, and how both are refused.
use Rattle.std.specs.Prelude.{◌≡◌, ◌⊎◌, ℕ, List, Ok, IsUtf8}
use Rattle.phone_json.specs.Records.{records_of}
use Rattle.phone_compact.specs.Records.{written, IsCompact, IsNotWritten}
use Rattle.phone_base.specs.declared.error.LoadMetadata.{LoadMetadata}
use Rattle.phone_base.specs.declared.error.LoadMetadata.TheVariants as error
use Rattle.phone_records.specs.declared.loader.Metadata.{Metadata}
use Rattle.phone_plans.specs.Refusals.{IsRefusalOf}
use Rattle.phone_plans.specs.Texts.{IsByteRefusal, IsCutShort}

-- the bytes are these records: their compact form, or a JSON text of them
abbrev pub AreOf : List Metadata → List ℕ → Type 0
AreOf db bytes = (bytes ≡ written db) ⊎ (IsUtf8 bytes × (records_of bytes ≡ Ok db))

-- the compact form is refused by `Json` where it is of no records, else as the records are
abbrev pub IsCompactRefusal : List ℕ → LoadMetadata → Type 0
IsCompactRefusal bytes e = (IsNotWritten bytes × (e ≡ error.Json)) ⊎
    ((db : List Metadata) × (bytes ≡ written db) × IsRefusalOf db e) ⊎ (e ≡ error.Memory)

-- bytes are refused as a compact form where they are meant as one, else as a JSON text
abbrev pub IsFormRefusal : List ℕ → LoadMetadata → Type 0
IsFormRefusal bytes e = (IsCompact bytes × IsCompactRefusal bytes e) ⊎
    (¬ (IsCompact bytes) × IsByteRefusal bytes e)

-- a refusal of a table that was read from bytes, whatever they were: the read was cut short, or
-- some bytes are refused so
abbrev pub IsFormRefusalOfSome : LoadMetadata → Type 0
IsFormRefusalOfSome e = IsCutShort e ⊎ ((bytes : List ℕ) × IsFormRefusal bytes e)
