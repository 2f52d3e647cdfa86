-- What is told of a short number.
use Rattle.std.specs.Prelude.{◌≡◌, ℕ, Bool, false, true, List, ◌∷◌, ◌++◌, chars, codes}
use Rattle.std.specs.Str.Lossy.{utf8_lossy}
use Rattle.phone_records.specs.declared.loader.Metadata.{Metadata}
use Rattle.phone_short.specs.Regions.{short_facts}
use Rattle.phone_short.specs.declared.facts.ShortFacts.{ShortFacts}
use Rattle.phone_short.specs.declared.rates.Cost.{Cost}
use Rattle.phone_short.specs.declared.rates.Cost.TheVariants as cost
use Rattle.phone_values.specs.declared.country.Id.{Id}

-- whether something holds, in a word
abbrev pub yes_or_no : Bool → List ℕ
yes_or_no true = codes "yes"
yes_or_no false = codes "no"

-- a cost, spelled as the kinds of numbers are
abbrev pub cost_word : Cost → List ℕ
cost_word cost.TollFree = codes "TollFree"
cost_word cost.StandardRate = codes "StandardRate"
cost_word cost.PremiumRate = codes "PremiumRate"
cost_word cost.Unknown = codes "Unknown"

-- the six answers on a short number, parted by tabs: possible, valid, cost, of some carriers,
-- emergency, reaches emergency services
abbrev pub short_fields : ShortFacts → List ℕ
short_fields f =
    yes_or_no f.is_possible ++ (9 ∷ (yes_or_no f.is_valid ++ (9 ∷ (cost_word f.cost ++
    (9 ∷ (yes_or_no f.is_carrier_specific ++ (9 ∷ (yes_or_no f.is_emergency ++
    (9 ∷ yes_or_no f.reaches_emergency)))))))))

-- what a line is answered: what is known of its text as a short number of the region, bytes that
-- aren't UTF-8 being replaced
abbrev pub IsShortLine : List Metadata → Id → List ℕ → List ℕ → Type 0
IsShortLine db region line answer =
    answer ≡ short_fields (short_facts db region (chars (utf8_lossy line)))
