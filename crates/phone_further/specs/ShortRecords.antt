-- Short numbers by the records of the regions of a calling code, of which some have none: what is
-- asked of each is asked of digits that were read before.
use Rattle.std.specs.Prelude.{◌≡◌, ℕ, Bool, false, if◌then◌else◌, List, [], ◌∷◌, is_some, map}
use Rattle.std.specs.Prelude.{Option, None, Some}
use Rattle.std.specs.List.{list_any}
use Rattle.std.specs.Option.{option_and_then, option_map_or}
use Rattle.phone_values.specs.declared.reading.Reading.{Reading}
use Rattle.phone_plans.specs.CodeLookUps.{territories}
use Rattle.phone_plans.specs.Lasts.{last_of}
use Rattle.phone_records.specs.Missing.{first_given}
use Rattle.phone_records.specs.declared.loader.Metadata.{Metadata}
use Rattle.phone_short.specs.Costs as costs
use Rattle.phone_short.specs.Numbers.{has_number, is_possible}
use Rattle.phone_short.specs.declared.rates.Cost.{Cost}
use Rattle.phone_short.specs.declared.rates.Cost.TheVariants.{Unknown}
use Rattle.phone_further.specs.ShortNumbers.{dearest_of, has_short_code, is_valid_by}
use Rattle.phone_further.specs.ShortNumbers.{short_record}
use Rattle.phone_further.specs.declared.short_numbers.FactsAnywhere.{FactsAnywhere}

-- the records of the regions of a number's calling code, in the order of its territories
abbrev pub short_records : (db short : List Metadata) → Reading → List (Option Metadata)
short_records db short n = map (short_record short) (territories n.code.value db)

-- a territory with the last one of its id
abbrev pub IsWithLast : List Metadata → Metadata × Option Metadata → Type 0
IsWithLast db t = t.1 ≡ last_of db t.0

-- digits are possible by a record
abbrev pub is_possible_by : List ℕ → Option Metadata → Bool
is_possible_by digits r = option_map_or (λ (m : Metadata). is_possible m digits) r false

-- what they cost by it
abbrev pub cost_by : List ℕ → Option Metadata → Cost
cost_by digits r = option_map_or (λ (m : Metadata). costs.cost_in m digits) r Unknown

-- they are a number and a short code of it
abbrev pub is_number_by : List ℕ → Option Metadata → Bool
is_number_by digits r = option_map_or (is_valid_by digits) r false

-- they are a carrier's
abbrev pub is_carrier_by : List ℕ → Option Metadata → Bool
is_carrier_by digits r = option_map_or (λ (m : Metadata). has_number m.carrier digits) r false

-- a record, where digits are a short code of it
abbrev pub if_code : List ℕ → Metadata → Option Metadata
if_code digits m = if has_short_code digits m then Some m else None

-- the first record of which they are a short code
abbrev pub first_code : List ℕ → List (Option Metadata) → Option Metadata
first_code digits rs = first_given (map (option_and_then (if_code digits)) rs)

-- the record that is chosen for digits: of one it, of several that one
abbrev pub chosen_by : List ℕ → List (Option Metadata) → Option Metadata
chosen_by digits [] = None
chosen_by digits (r ∷ []) = r
chosen_by digits (r ∷ s ∷ rs) = first_code digits (r ∷ s ∷ rs)

-- digits are valid: of several records by the chosen one; by the only one where they are a number
-- and a short code
abbrev pub is_valid_among : List ℕ → List (Option Metadata) → Bool
is_valid_among digits [] = false
is_valid_among digits (r ∷ []) = is_number_by digits r
is_valid_among digits (r ∷ s ∷ rs) = is_some (first_code digits (r ∷ s ∷ rs))

-- all that is known of digits
abbrev pub facts_among : List ℕ → List (Option Metadata) → FactsAnywhere
facts_among digits rs = record {
  cost = dearest_of (map (cost_by digits) rs);
  is_possible = list_any (is_possible_by digits) rs;
  is_valid = is_valid_among digits rs;
  is_carrier_specific = is_carrier_by digits (chosen_by digits rs);
}
