-- What is known of a text as a short number, told in plain numbers.
use Rattle.std.specs.Prelude.{◌≡◌, ℕ, Bool, if◌then◌else◌, List, IsSomeAnd, chars}
use Rattle.phone_values.specs.Ids.{id_of}
use Rattle.phone_records.specs.declared.loader.Metadata.{Metadata}
use Rattle.phone_short.specs.Regions.{short_facts}
use Rattle.phone_short.specs.declared.facts.ShortFacts as short
use Rattle.phone_short.specs.declared.rates.Cost.{Cost}
use Rattle.phone_short.specs.declared.rates.Cost.TheVariants.{PremiumRate, StandardRate, TollFree}
use Rattle.phone_short.specs.declared.rates.Cost.TheVariants.{Unknown}
use Rattle.phone_c_base.specs.declared.short.PlainFacts.{PlainFacts}

-- a cost by its number
abbrev pub cost_number : Cost → ℕ
cost_number TollFree = 0
cost_number StandardRate = 1
cost_number PremiumRate = 2
cost_number Unknown = 3

-- 1 where it is so, else 0
abbrev pub flag : Bool → ℕ
flag is_so = if is_so then 1 else 0

-- what is known of a short number, as plain numbers
abbrev pub plain_facts : short.ShortFacts → PlainFacts
plain_facts f = record {
  cost = cost_number f.cost;
  is_possible = flag f.is_possible;
  is_valid = flag f.is_valid;
  is_carrier_specific = flag f.is_carrier_specific;
  is_emergency = flag f.is_emergency;
  reaches_emergency = flag f.reaches_emergency;
}

-- the bytes are a region's id, and this is known of the text as a short number of that region
abbrev pub AreShortFacts : List Metadata → (region text : List ℕ) → PlainFacts → Type 0
AreShortFacts db region text facts = IsSomeAnd (id_of region)
    (λ id. facts ≡ plain_facts (short_facts db id (chars text)))
