-- Where the numbers of a text stand, as libphonenumber finds them.
use Rattle.std.specs.Prelude.{◌≡◌, ℕ, ◌+◌, ◌<◌, List, [], Option, chars, length, map}
use Rattle.phone_values.specs.declared.country.Id.{Id}
use Rattle.phone_values.specs.declared.reading.Reading.{Reading}
use Rattle.phone_records.specs.declared.loader.Metadata.{Metadata}
use Rattle.phone_matches.specs.Numbers.{AreNumbersBy}
use Rattle.phone_matches.specs.declared.leniency.Leniency.{Leniency}
use Rattle.phone_matches.specs.declared.leniency.Leniency.TheVariants.{ExactGrouping, Possible}
use Rattle.phone_matches.specs.declared.leniency.Leniency.TheVariants.{StrictGrouping, Valid}
use Rattle.phone_matches.specs.Told.{AllMatchThere, told_matches}
use Rattle.phone_matches.specs.declared.places.Match.{Match}
use Rattle.phone_c_base.specs.declared.found.Place.{Place}

-- a leniency by its number
abbrev pub leniency_number : Leniency → ℕ
leniency_number Possible = 0
leniency_number Valid = 1
leniency_number StrictGrouping = 2
leniency_number ExactGrouping = 3

-- no leniency has this number: the last one's is below it
abbrev pub IsNoLeniency : ℕ → Type 0
IsNoLeniency number = leniency_number ExactGrouping < number

-- some leniency has this number, and it is so by it
abbrev pub UnderLeniency : ℕ → (Leniency → Type 0) → Type 0
UnderLeniency number IsSoBy =
    (leniency : Leniency) × (number ≡ leniency_number leniency) × IsSoBy leniency

-- where a match stands, in bytes
abbrev pub place_of : Match Reading → Place
place_of m = record {
  start = length m.place.before.now;
  end = length m.place.before.now + length m.place.text.now;
}

-- where matches stand
abbrev pub places_of : List (Match Reading) → List Place
places_of all = map place_of all

-- under a hint and a leniency, with so many tries, the numbers of a text stand there, by a database
-- of alternate layouts
abbrev pub ArePlacesBy : (db alternates : List Metadata) → Option Id → Leniency → (tries : ℕ) →
    (text : List ℕ) → List Place → Type 0
ArePlacesBy db alternates hint leniency tries text places = (all : List (Match Reading)) ×
    AreNumbersBy db alternates hint leniency tries (chars text) (told_matches all) ×
    AllMatchThere text all × (places ≡ places_of all)

-- the same without alternate layouts
abbrev pub ArePlaces : List Metadata → Option Id → Leniency → (tries : ℕ) → (text : List ℕ) →
    List Place → Type 0
ArePlaces db hint leniency tries text places = ArePlacesBy db [] hint leniency tries text places
