-- What a call of a short number costs, by the region's record: as libphonenumber has it.
use Rattle.std.specs.Prelude.{ℕ, if◌then◌else◌, List, [], ◌∷◌, Option, codes}
use Rattle.std.specs.List.{find}
use Rattle.std.specs.Option.{option_map_or}
use Rattle.phone_records.specs.declared.loader.Descriptor.{Descriptor}
use Rattle.phone_records.specs.declared.loader.Metadata.{Metadata}
use Rattle.phone_short.specs.Emergencies.{is_emergency_number}
use Rattle.phone_short.specs.Numbers.{has_number, is_possible}
use Rattle.phone_short.specs.declared.rates.Cost.{Cost}
use Rattle.phone_short.specs.declared.rates.Cost.TheVariants.{PremiumRate, StandardRate, TollFree}
use Rattle.phone_short.specs.declared.rates.Cost.TheVariants.{Unknown}

-- the costs with their descriptors, the dearest first
abbrev pub rates : Metadata → List (Cost × Option Descriptor)
rates m = (PremiumRate, m.premium_rate) ∷ (StandardRate, m.standard_rate) ∷ (TollFree, m.toll_free)
    ∷ []

-- what no descriptor has is free where it is an emergency number
abbrev pub otherwise : Metadata → List ℕ → Cost
otherwise m digits = if is_emergency_number m digits then TollFree else Unknown

-- the cost of possible digits is the first whose descriptor has them; of others it isn't known
abbrev pub cost_in : Metadata → List ℕ → Cost
cost_in m digits =
    if is_possible m digits
    then option_map_or (λ (r : Cost × Option Descriptor). r.0)
    (find (λ (r : Cost × Option Descriptor). has_number r.1 digits) (rates m)) (otherwise m digits)
    else Unknown

-- the word for a cost
abbrev pub cost_word : Cost → List ℕ
cost_word TollFree = codes "TOLL_FREE"
cost_word StandardRate = codes "STANDARD_RATE"
cost_word PremiumRate = codes "PREMIUM_RATE"
cost_word Unknown = codes "UNKNOWN_COST"
