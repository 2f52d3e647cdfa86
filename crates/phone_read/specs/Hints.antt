-- The hint: its territory, and the calling code that it gives, after the original's
-- `parser/helper`. Texts are digits here, whose characters are their bytes.
use Rattle.std.specs.Prelude.{ℕ, ◌&&◌, not, Bool, if◌then◌else◌, List, length, drop, Option}
use Rattle.std.specs.Option.{option_and_then}
use Rattle.std.specs.Fmt.{decimal}
use Rattle.phone_values.specs.Ids.{name}
use Rattle.phone_values.specs.Validations.{is_possible}
use Rattle.phone_values.specs.declared.country.Id.{Id}
use Rattle.phone_values.specs.declared.country.Source.{Source}
use Rattle.phone_values.specs.declared.country.Source.TheVariants.{Number, Default}
use Rattle.phone_territory.specs.Records.{code_of}
use Rattle.phone_plans.specs.Records.{last_with}
use Rattle.phone_records.specs.declared.loader.Metadata.{Metadata}
use Rattle.phone_parts.specs.Texts.{is_front}
use Rattle.phone_read.specs.Kinds.{is_of}
use Rattle.phone_read.specs.Verdicts.{verdict}

-- a calling code, how it was found, and the digits that follow it
pub record Coded : Type 0 where
  pub source : Source
  pub value : ℕ
  pub rest : List ℕ

-- the territory of the hint: the last record with its id
abbrev pub hinted : List Metadata → Option Id → Option Metadata
hinted db hint = option_and_then (λ id. last_with (name id) db) hint

-- digits look like a number of the territory: they are of its general kind, and their count is
-- possible
abbrev pub looks_national : Metadata → List ℕ → Bool
looks_national m digits = is_of m.general digits && is_possible (verdict m (length digits))

-- by the hint: its code; where the digits begin with that code, and as they stand do not look like
-- a number of the territory, the code is cut off
abbrev pub code_by_hint : Metadata → List ℕ → Coded
code_by_hint m digits =
    let code = code_of m in
    if is_front (decimal code) digits && not (looks_national m digits)
    then record { source = Number; value = code; rest = drop (length (decimal code)) digits }
    else record { source = Default; value = code; rest = digits }
