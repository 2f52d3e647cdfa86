-- Short numbers of a region under a database: the region's last record tells of them; nothing is
-- known of a region without one.
use Rattle.std.specs.Prelude.{ℕ, Bool, false, List, Option}
use Rattle.std.specs.Option.{option_and_then, option_map_or}
use Rattle.phone_values.specs.Ids.{name}
use Rattle.phone_values.specs.declared.country.Id.{Id}
use Rattle.phone_plans.specs.Records.{last_with}
use Rattle.phone_records.specs.declared.loader.Metadata.{Metadata}
use Rattle.phone_short.specs.Costs.{cost_in}
use Rattle.phone_short.specs.Emergencies.{is_emergency_in, reaches_emergency_in}
use Rattle.phone_short.specs.Kinds.{kind_in}
use Rattle.phone_short.specs.Numbers as numbers
use Rattle.phone_short.specs.Texts.{digits_in}
use Rattle.phone_short.specs.declared.rates.Cost.{Cost}
use Rattle.phone_short.specs.declared.rates.Cost.TheVariants.{Unknown}
use Rattle.phone_short.specs.declared.facts.ShortFacts.{ShortFacts}
use Rattle.phone_short.specs.declared.kind.ShortKind.{ShortKind}

-- the record of a region
abbrev pub record_of : List Metadata → Id → Option Metadata
record_of db region = last_with (name region) db

-- a text's digits are possible in the region
abbrev pub is_possible_short : List Metadata → Id → List ℕ → Bool
is_possible_short db region t = option_map_or (λ m. numbers.is_possible m (digits_in t))
    (record_of db region) false

-- they are valid there
abbrev pub is_valid_short : List Metadata → Id → List ℕ → Bool
is_valid_short db region t = option_map_or (λ m. numbers.is_valid m (digits_in t))
    (record_of db region) false

-- what a call of them costs there
abbrev pub cost : List Metadata → Id → List ℕ → Cost
cost db region t = option_map_or (λ m. cost_in m (digits_in t)) (record_of db region) Unknown

-- only some carriers connect them there
abbrev pub is_carrier_specific : List Metadata → Id → List ℕ → Bool
is_carrier_specific db region t = option_map_or (λ m. numbers.is_carrier_specific m (digits_in t))
    (record_of db region) false

-- the text is an emergency number there
abbrev pub is_emergency : List Metadata → Id → List ℕ → Bool
is_emergency db region t = option_map_or (λ m. is_emergency_in m t) (record_of db region) false

-- dialled there, it reaches emergency services
abbrev pub reaches_emergency : List Metadata → Id → List ℕ → Bool
reaches_emergency db region t = option_map_or (λ m. reaches_emergency_in m t) (record_of db region)
    false

-- what kind of short number it is there
abbrev pub short_kind : List Metadata → Id → List ℕ → Option ShortKind
short_kind db region t = option_and_then (λ m. kind_in m t) (record_of db region)

-- all that a region's record tells of a text
abbrev pub facts_in : Metadata → List ℕ → ShortFacts
facts_in m t = record {
  is_possible = numbers.is_possible m (digits_in t);
  is_valid = numbers.is_valid m (digits_in t);
  cost = cost_in m (digits_in t);
  is_carrier_specific = numbers.is_carrier_specific m (digits_in t);
  is_emergency = is_emergency_in m t;
  reaches_emergency = reaches_emergency_in m t;
}

-- all of these at once
abbrev pub short_facts : List Metadata → Id → List ℕ → ShortFacts
short_facts db region t = record {
  is_possible = is_possible_short db region t;
  is_valid = is_valid_short db region t;
  cost = cost db region t;
  is_carrier_specific = is_carrier_specific db region t;
  is_emergency = is_emergency db region t;
  reaches_emergency = reaches_emergency db region t;
}
