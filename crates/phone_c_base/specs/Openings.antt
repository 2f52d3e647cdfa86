-- Which database the bytes of a text are, and by which status they are refused.
use Rattle.std.specs.Prelude.{◌≡◌, ◌⊎◌, ℕ, ◌+◌, ◌==◌, if◌then◌else◌, List, None, IsUtf8}
use Rattle.std.specs.List.{AllByRecursion}
use Rattle.phone_compact.specs.Records.{IsCompact}
use Rattle.phone_base.specs.Errors.{told}
use Rattle.phone_base.specs.declared.error.LoadMetadata.{LoadMetadata}
use Rattle.phone_records.specs.Missing.{first_missing}
use Rattle.phone_records.specs.declared.loader.Metadata.{Metadata}
use Rattle.phone_territory.specs.First.{IsPattern}
use Rattle.phone_plans.specs.Refusals.{patterns}
use Rattle.phone_plans.specs.Forms.{AreOf, IsFormRefusal}
use Rattle.phone_c_base.specs.declared.status.TheConstants.{MEMORY, NOT_UTF8}

-- the bytes are these records, of which none lacks a value, and each of their patterns is one
pub record IsDatabaseOf (text : List ℕ) (db : List Metadata) : Type 0 where
  pub records : AreOf db text
  pub complete : first_missing db ≡ None
  pub read : AllByRecursion IsPattern (patterns db)

-- bytes that are meant as the compact form of records, or are UTF-8
abbrev pub HasForm : List ℕ → Type 0
HasForm text = IsCompact text ⊎ IsUtf8 text

-- the status of a refusal of bytes, by its number: none is that of a refusal of a text but memory's
abbrev pub opening_status : ℕ → ℕ
opening_status number = if number == MEMORY then MEMORY else number + 7

-- the status is that of a refusal of the bytes
abbrev pub IsRefusalOf : List ℕ → ℕ → Type 0
IsRefusalOf text status =
    (e : LoadMetadata) × IsFormRefusal text e × (status ≡ opening_status (told e).0)

-- bytes that have no form are refused by that status, others by the number of a refusal
abbrev pub IsRefused : List ℕ → ℕ → Type 0
IsRefused text status = (¬ (HasForm text) × (status ≡ NOT_UTF8)) ⊎
    (HasForm text × IsRefusalOf text status)
