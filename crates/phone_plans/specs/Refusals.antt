-- Why a list of records is no database.
use Rattle.std.specs.Prelude.{◌≡◌, ◌⊎◌, ℕ, List, [], ◌∷◌, ◌++◌, MatchOption}
use Rattle.std.specs.List.{flat_map}
use Rattle.phone_base.specs.Errors.{told}
use Rattle.phone_records.specs.Missing.{first_missing, phase_of, name_of}
use Rattle.phone_records.specs.declared.loader.Metadata.{Metadata}
use Rattle.phone_records.specs.declared.missing.Missing.{Missing}
use Rattle.phone_pattern.specs.Rules.{first_group_pattern}
use Rattle.phone_territory.specs.Refusals.{IsPatternRefusal, patterns_in}
use Rattle.phone_base.specs.declared.error.LoadMetadata.{LoadMetadata}
use Rattle.phone_base.specs.declared.error.LoadMetadata.TheVariants as error

-- the patterns of a database: those of its territories, and that of the first group of a template
abbrev pub patterns : List Metadata → List (List ℕ)
patterns db = flat_map patterns_in db ++ first_group_pattern ∷ []

-- a refusal tells this missing value, by its kind of record and its name
abbrev pub TellsMissing : Missing → LoadMetadata → Type 0
TellsMissing missing e = told e ≡ (1, phase_of missing ∷ name_of missing ∷ [])

-- records are refused for the first value that is missing; only where nothing is missing, for one
-- of the database's patterns; or memory was refused
abbrev pub IsRefusalOf : List Metadata → LoadMetadata → Type 0
IsRefusalOf db e = MatchOption (first_missing db) (IsPatternRefusal (patterns db) e)
    (λ missing. TellsMissing missing e) ⊎ (e ≡ error.Memory)
