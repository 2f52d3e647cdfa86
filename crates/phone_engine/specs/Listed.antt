-- What a database lists.
use Rattle.std.specs.Prelude.{◌≡◌, ◌⊎◌, ℕ, Bool, List, chars, filter, is_some, Option, None, Some}
use Rattle.std.specs.Prelude.{Result, Ok, Err}
use Rattle.std.specs.List.{range_with_len}
use Rattle.std.specs.Option.{option_and_then}
use Rattle.std.specs.Result.{result_map_both}
use Rattle.phone_values.specs.Ids.{name}
use Rattle.phone_values.specs.declared.country.Id.{Id}
use Rattle.phone_values.specs.declared.country.TheConstants.{ALL}
use Rattle.phone_values.specs.declared.error.ParseError.{ParseError}
use Rattle.phone_values.specs.declared.error.ParseError.TheVariants.{Memory}
use Rattle.phone_values.specs.declared.kind.«Type».{«Type»}
use Rattle.phone_territory.specs.Kinds.{descriptor_for, kinds_of}
use Rattle.phone_plans.specs.CodeLookUps.{is_listed}
use Rattle.phone_plans.specs.Records.{last_with}
use Rattle.phone_records.specs.declared.loader.Descriptor.{Descriptor}
use Rattle.phone_records.specs.declared.loader.Metadata.{Metadata}
use Rattle.phone_engine.specs.Readings.{ReadsBy}
use Rattle.phone_values.specs.declared.rules.Rules.{Rules}
use Rattle.phone_values.specs.declared.reading.Reading.{Reading}

-- a region has a territory
unfoldable pub has_region : List Metadata → Id → Bool
has_region db region = is_some (last_with (name region) db)

-- the regions that have a territory, in the order of the known ids, which is that of the alphabet
abbrev pub listed_regions : List Metadata → List Id
listed_regions db = filter (has_region db) ALL

-- the calling codes below a number that have a territory, ascending
unfoldable pub codes_below : List Metadata → ℕ → List ℕ
codes_below db end = filter (λ code. is_listed code db) (range_with_len 0 end)

-- the calling codes that have a territory
abbrev pub listed_codes : List Metadata → List ℕ
listed_codes db = codes_below db 65536

-- the example that a region's territory gives of a kind
abbrev pub example_text : List Metadata → Id → «Type» → Option (List ℕ)
example_text db region kind = option_and_then
    (λ (m : Metadata). option_and_then (λ (d : Descriptor). d.example)
    (descriptor_for kind (kinds_of m))) (last_with (name region) db)

-- the answer to an example: none where there is none, else what it is read as with the region as
-- hint, or want of memory
abbrev pub AnswersExample : Rules → List Metadata → Id → Option (List ℕ) →
    Result (Option Reading) ParseError → Type 0
AnswersExample rules db region None r = r ≡ Ok None
AnswersExample rules db region (Some text) r = (r ≡ Err Memory) ⊎
    ((read : Result Reading ParseError) × ReadsBy rules db (Some region) (chars text) read ×
    (r ≡ result_map_both Some (λ e. e) read))
