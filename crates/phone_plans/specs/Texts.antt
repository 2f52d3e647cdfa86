-- Why a text, or the bytes that a source has, are no database.
use Rattle.std.specs.Prelude.{◌≡◌, ◌⊎◌, ℕ, List, Result, Err, MatchResult, IsUtf8}
use Rattle.phone_json.specs.Records.{records_of}
use Rattle.phone_base.specs.Errors.{told}
use Rattle.phone_base.specs.declared.error.LoadMetadata.{LoadMetadata}
use Rattle.phone_base.specs.declared.error.LoadMetadata.TheVariants as error
use Rattle.phone_records.specs.declared.loader.Metadata.{Metadata}
use Rattle.phone_plans.specs.Refusals.{IsRefusalOf}

-- a text is refused as its records are, or, where it isn't records, by what is told of it; or
-- memory was refused
abbrev pub IsTextRefusal : List ℕ → LoadMetadata → Type 0
IsTextRefusal text e = MatchResult (records_of text) (λ records. IsRefusalOf records e)
    (λ refusal. told e ≡ refusal) ⊎ (e ≡ error.Memory)

-- bytes are refused by `Json` where they are no text, else as the text that they are
abbrev pub IsByteRefusal : List ℕ → LoadMetadata → Type 0
IsByteRefusal bytes e = (¬ (IsUtf8 bytes) × (e ≡ error.Json)) ⊎
    (IsUtf8 bytes × IsTextRefusal bytes e)

-- a refusal that says nothing of the bytes: a read failed, or memory was refused
abbrev pub IsCutShort : LoadMetadata → Type 0
IsCutShort e = (e ≡ error.Io) ⊎ (e ≡ error.Memory)

-- a refusal of a database that was read from bytes, whatever they were: the read was cut short, or
-- some bytes are refused so
abbrev pub IsRefusalOfSome : LoadMetadata → Type 0
IsRefusalOfSome e = IsCutShort e ⊎ ((bytes : List ℕ) × IsByteRefusal bytes e)

-- the faults of a source that was read for a database: one where the answer is `Io`
abbrev pub faults_of : Result (List Metadata) LoadMetadata → ℕ
faults_of (Err error.Io) = 1
faults_of _ = 0
