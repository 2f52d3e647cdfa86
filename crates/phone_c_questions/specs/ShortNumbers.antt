-- What is known of a number as a short number where its region isn't told, and examples of short
-- numbers, in plain numbers.
use Rattle.std.specs.Prelude.{◌≡◌, ℕ, ◌==◌, if◌then◌else◌, List, Option, None, Some, IsSomeAnd}
use Rattle.phone_values.specs.Ids.{id_of}
use Rattle.phone_values.specs.declared.country.Id.{Id}
use Rattle.phone_values.specs.declared.reading.Reading.{Reading}
use Rattle.phone_records.specs.declared.loader.Metadata.{Metadata}
use Rattle.phone_short.specs.declared.rates.Cost.{Cost}
use Rattle.phone_short.specs.declared.rates.Cost.TheVariants.{PremiumRate, StandardRate, TollFree}
use Rattle.phone_short.specs.declared.rates.Cost.TheVariants.{Unknown}
use Rattle.phone_further.specs.ShortNumbers.{cost_anywhere, is_carrier_anywhere}
use Rattle.phone_further.specs.ShortNumbers.{is_possible_anywhere, is_valid_anywhere}
use Rattle.phone_further.specs.ShortNumbers.{short_example, short_example_of_cost}
use Rattle.phone_c_base.specs.Numbers.{HasNumbers}
use Rattle.phone_c_base.specs.ShortNumbers.{cost_number, flag}
use Rattle.phone_c_base.specs.declared.number.Number as plain
use Rattle.phone_c_questions.specs.declared.short.FactsAnywhere.{FactsAnywhere}

-- what is known of a number: one table has the territories of its calling code, the other their
-- short numbers
abbrev pub facts_anywhere : (db short : List Metadata) → Reading → FactsAnywhere
facts_anywhere db short n = record {
  cost = cost_number (cost_anywhere db short n);
  is_possible = flag (is_possible_anywhere db short n);
  is_valid = flag (is_valid_anywhere db short n);
  is_carrier_specific = flag (is_carrier_anywhere db short n);
}

-- this is known of the number that has these plain numbers
abbrev pub AreFactsAnywhere : (db short : List Metadata) → plain.Number → FactsAnywhere → Type 0
AreFactsAnywhere db short x facts =
    (n : Reading) × HasNumbers x n × (facts ≡ facts_anywhere db short n)

-- of which cost an example is asked, by its number: none for any
abbrev pub cost_asked : ℕ → Option (Option Cost)
cost_asked number =
    if number == 0 then Some (Some TollFree)
    else if number == 1 then Some (Some StandardRate)
    else if number == 2 then Some (Some PremiumRate)
    else if number == 3 then Some (Some Unknown)
    else if number == 4 then Some None
    else None

-- the example of a region's short numbers, of all or of those of a cost
abbrev pub example_of : List Metadata → Id → Option Cost → Option (List ℕ)
example_of short id None = short_example short id
example_of short id (Some c) = short_example_of_cost short id c

-- the bytes are a region's id, the number is one that asks, and the table gives this example
abbrev pub HasExample : List Metadata → (region : List ℕ) → (cost : ℕ) → Option (List ℕ) → Type 0
HasExample short region cost text = IsSomeAnd (id_of region)
    (λ id. IsSomeAnd (cost_asked cost) (λ c. example_of short id c ≡ text))
