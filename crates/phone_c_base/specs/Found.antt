-- Where the numbers of a text stand.
use Rattle.std.specs.Prelude.{◌≡◌, ℕ, List, Option, map, Ok, chars, slice_range}
use Rattle.phone_values.specs.declared.country.Id.{Id}
use Rattle.phone_values.specs.declared.reading.Reading.{Reading}
use Rattle.phone_records.specs.declared.loader.Metadata.{Metadata}
use Rattle.phone_engine.specs.Readings.{ReadsBy}
use Rattle.phone_values.specs.declared.rules.Rules.{Rules}
use Rattle.phone_find.specs.Numbers.{AreNumbers}
use Rattle.phone_find.specs.declared.leniency.Leniency.{Leniency}
use Rattle.phone_find.specs.declared.leniency.Leniency.TheVariants.{Possible, Valid}
use Rattle.phone_find.specs.declared.search.Found as search
use Rattle.phone_c_base.specs.declared.found.Place.{Place}

-- a leniency by its number
abbrev pub leniency_number : Leniency → ℕ
leniency_number Possible = 0
leniency_number Valid = 1

-- some leniency has this number, and it is so by it
abbrev pub UnderLeniency : ℕ → (Leniency → Type 0) → Type 0
UnderLeniency number IsSoBy =
    (leniency : Leniency) × (number ≡ leniency_number leniency) × IsSoBy leniency

-- where numbers were found
abbrev pub places_of : List (search.Found Reading) → List Place
places_of all = map (λ (f : search.Found Reading). record { start = f.start; end = f.end }) all

-- by rules, under a hint and a leniency the numbers of the text stand there
abbrev pub ArePlaces : Rules → List Metadata → Option Id → Leniency → (text : List ℕ) →
    List Place → Type 0
ArePlaces rules db hint leniency text places = (all : List (search.Found Reading)) ×
    AreNumbers rules db hint leniency text all × (places ≡ places_of all)

-- what stands at a place of a text is read by rules and under a hint as a number
abbrev pub IsReadAt : Rules → List Metadata → Option Id → (text : List ℕ) → Place → Type 0
IsReadAt rules db hint text p = (n : Reading) ×
    ReadsBy rules db hint (chars (slice_range text p.start p.end)) (Ok n)
