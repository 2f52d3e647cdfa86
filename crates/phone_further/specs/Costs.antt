-- What a short number of a calling code costs, of which no region is told: our own answer.
use Rattle.std.specs.Prelude.{ℕ, ◌||◌, not, Bool, false, List, filter, chars, Option}
use Rattle.std.specs.Option.{option_map_or}
use Rattle.phone_values.specs.Numbers.{text_of}
use Rattle.phone_values.specs.declared.reading.Reading.{Reading}
use Rattle.phone_plans.specs.CodeLookUps.{territories}
use Rattle.phone_records.specs.declared.loader.Metadata.{Metadata}
use Rattle.phone_short.specs.Numbers.{is_valid}
use Rattle.phone_short.specs.Regions.{is_valid_short}
use Rattle.phone_short.specs.declared.rates.Cost.{Cost}
use Rattle.phone_short.specs.declared.rates.Cost.TheVariants.{Unknown}
use Rattle.phone_further.specs.ShortNumbers.{cost_in, dearest, is_one_cost, region_of}
use Rattle.phone_further.specs.ShortRecords.{cost_by}

-- digits are a short number in a territory's region
abbrev pub is_valid_in : List Metadata → List ℕ → Metadata → Bool
is_valid_in short digits m = option_map_or (λ id. is_valid_short short id (chars digits))
    (region_of m) false

-- the table of a territory's region knows digits: what they cost there is told, or they are a short
-- number there
abbrev pub knows : List Metadata → List ℕ → Metadata → Bool
knows short digits m = not (is_one_cost Unknown (cost_in short digits m)) ||
    is_valid_in short digits m

-- what a number costs: in the regions of its code whose table knows it the first there is of
-- premium rate, an unknown cost, standard rate and nothing
abbrev pub known_cost : (db short : List Metadata) → Reading → Cost
known_cost db short n = dearest short (text_of n.national)
    (filter (knows short (text_of n.national)) (territories n.code.value db))

-- digits are a short number by the record of a region
abbrev pub is_valid_by : List ℕ → Option Metadata → Bool
is_valid_by digits r = option_map_or (λ (m : Metadata). is_valid m digits) r false

-- a record knows digits: what they cost by it is told, or they are a short number by it
abbrev pub known_by : List ℕ → Option Metadata → Bool
known_by digits r = not (is_one_cost Unknown (cost_by digits r)) || is_valid_by digits r
