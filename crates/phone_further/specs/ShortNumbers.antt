-- Short numbers of a calling code, of which no region is told: as libphonenumber has them. One
-- database lists the territories of the code, another the short numbers of their regions.
use Rattle.std.specs.Prelude.{ℕ, ◌&&◌, Bool, true, false, if◌then◌else◌, List, [], ◌∷◌}
use Rattle.std.specs.Prelude.{chars, is_some, map, Option, None, Some}
use Rattle.std.specs.List.{find, list_any}
use Rattle.std.specs.Option.{option_and_then, option_map_or}
use Rattle.phone_values.specs.Ids.{id_of}
use Rattle.phone_values.specs.Numbers.{text_of}
use Rattle.phone_values.specs.declared.country.Id.{Id}
use Rattle.phone_values.specs.declared.reading.Reading.{Reading}
use Rattle.phone_plans.specs.CodeLookUps.{territories}
use Rattle.phone_records.specs.declared.loader.Descriptor.{Descriptor}
use Rattle.phone_records.specs.declared.loader.Metadata.{Metadata}
use Rattle.phone_short.specs.Numbers.{has_number}
use Rattle.phone_short.specs.Regions.{cost, is_possible_short, record_of}
use Rattle.phone_short.specs.declared.rates.Cost.{Cost}
use Rattle.phone_short.specs.declared.rates.Cost.TheVariants.{PremiumRate, StandardRate, TollFree}
use Rattle.phone_short.specs.declared.rates.Cost.TheVariants.{Unknown}
use Rattle.phone_further.specs.declared.short_numbers.FactsAnywhere.{FactsAnywhere}

-- the region of a territory
abbrev pub region_of : Metadata → Option Id
region_of m = option_and_then id_of m.id

-- the short numbers of a territory's region
abbrev pub short_record : List Metadata → Metadata → Option Metadata
short_record short m = option_and_then (record_of short) (region_of m)

-- digits are possible in a territory's region
abbrev pub is_possible_in : List Metadata → List ℕ → Metadata → Bool
is_possible_in short digits m = option_map_or (λ id. is_possible_short short id (chars digits))
    (region_of m) false

-- a number is possible where its digits are in some region of its code
abbrev pub is_possible_anywhere : (db short : List Metadata) → Reading → Bool
is_possible_anywhere db short n = list_any (is_possible_in short (text_of n.national))
    (territories n.code.value db)

-- digits are a short code of a record
abbrev pub has_short_code : List ℕ → Metadata → Bool
has_short_code digits r = has_number r.short_code digits

-- they are one in a territory's region
abbrev pub is_code_in : List Metadata → List ℕ → Metadata → Bool
is_code_in short digits m = option_map_or (has_short_code digits) (short_record short m) false

-- they are a number of a record and a short code of it
abbrev pub is_valid_by : List ℕ → Metadata → Bool
is_valid_by digits r = has_number r.general digits && has_short_code digits r

-- the territory that is chosen for digits: of one it, of several the first where they are a short
-- code
abbrev pub chosen_of : List Metadata → List ℕ → List Metadata → Option Metadata
chosen_of short digits [] = None
chosen_of short digits (m ∷ []) = Some m
chosen_of short digits (m ∷ k ∷ ms) = find (is_code_in short digits) (m ∷ k ∷ ms)

-- digits are valid: of several territories in the chosen one; in the only one where they are a
-- number and a short code
abbrev pub is_valid_of : List Metadata → List ℕ → List Metadata → Bool
is_valid_of short digits [] = false
is_valid_of short digits (m ∷ []) = option_map_or (is_valid_by digits) (short_record short m) false
is_valid_of short digits (m ∷ k ∷ ms) = is_some (find (is_code_in short digits) (m ∷ k ∷ ms))

-- a number is a short number of some region of its code
abbrev pub is_valid_anywhere : (db short : List Metadata) → Reading → Bool
is_valid_anywhere db short n = is_valid_of short (text_of n.national)
    (territories n.code.value db)

-- digits are a carrier's in a territory's region
abbrev pub is_carrier_in : List Metadata → List ℕ → Metadata → Bool
is_carrier_in short digits m = option_map_or (λ (r : Metadata). has_number r.carrier digits)
    (short_record short m) false

-- only some carriers connect a number: those of the chosen region
abbrev pub is_carrier_anywhere : (db short : List Metadata) → Reading → Bool
is_carrier_anywhere db short n = option_map_or (is_carrier_in short (text_of n.national))
    (chosen_of short (text_of n.national) (territories n.code.value db)) false

-- what digits cost in a territory's region
abbrev pub cost_in : List Metadata → List ℕ → Metadata → Cost
cost_in short digits m = option_map_or (λ id. cost short id (chars digits)) (region_of m) Unknown

-- two costs are one
abbrev pub is_one_cost : Cost → Cost → Bool
is_one_cost PremiumRate PremiumRate = true
is_one_cost StandardRate StandardRate = true
is_one_cost TollFree TollFree = true
is_one_cost Unknown Unknown = true
is_one_cost a b = false

-- of costs the first there is of premium rate, an unknown cost, standard rate and nothing
abbrev pub dearest_of : List Cost → Cost
dearest_of costs =
    if list_any (is_one_cost PremiumRate) costs then PremiumRate
    else if list_any (is_one_cost Unknown) costs then Unknown
    else if list_any (is_one_cost StandardRate) costs then StandardRate
    else if list_any (is_one_cost TollFree) costs then TollFree
    else Unknown

-- a cost that may be there, as a list
abbrev pub held : Option Cost → List Cost
held None = []
held (Some c) = c ∷ []

-- what digits cost where the region isn't told: of what they cost in the territories' regions
abbrev pub dearest : List Metadata → List ℕ → List Metadata → Cost
dearest short digits ms = dearest_of (map (cost_in short digits) ms)

-- what a number costs
abbrev pub cost_anywhere : (db short : List Metadata) → Reading → Cost
cost_anywhere db short n = dearest short (text_of n.national) (territories n.code.value db)

-- all that is known of digits, by the territories of their code
abbrev pub facts_of : List Metadata → List ℕ → List Metadata → FactsAnywhere
facts_of short digits ms = record {
  cost = dearest short digits ms;
  is_possible = list_any (is_possible_in short digits) ms;
  is_valid = is_valid_of short digits ms;
  is_carrier_specific = option_map_or (is_carrier_in short digits) (chosen_of short digits ms)
      false;
}

-- the same of a number
abbrev pub facts_anywhere : (db short : List Metadata) → Reading → FactsAnywhere
facts_anywhere db short n = facts_of short (text_of n.national) (territories n.code.value db)

-- the example of a descriptor
abbrev pub example_of : Option Descriptor → Option (List ℕ)
example_of d = option_and_then (λ (d : Descriptor). d.example) d

-- the example of a region's short numbers
abbrev pub short_example : List Metadata → Id → Option (List ℕ)
short_example short id = option_and_then (λ (r : Metadata). example_of r.short_code)
    (record_of short id)

-- the descriptor of the numbers of a cost
abbrev pub numbers_of_cost : Cost → Metadata → Option Descriptor
numbers_of_cost PremiumRate r = r.premium_rate
numbers_of_cost StandardRate r = r.standard_rate
numbers_of_cost TollFree r = r.toll_free
numbers_of_cost Unknown r = None

-- the example of a region's short numbers of a cost
abbrev pub short_example_of_cost : List Metadata → Id → Cost → Option (List ℕ)
short_example_of_cost short id c = option_and_then (λ r. example_of (numbers_of_cost c r))
    (record_of short id)
