-- The description of a number: as libphonenumber's geocoder tells it.
use Rattle.std.specs.Prelude.{◌≡◌, ◌==◌, not, ℕ, Bool, true, false, if◌then◌else◌, List, [], length}
use Rattle.std.specs.Prelude.{Option, None, Some}
use Rattle.std.specs.Option.{option_map_or}
use Rattle.std.specs.Str.{bytes_eq}
use Rattle.phone_languages.specs.Atlases.{name_in}
use Rattle.phone_languages.specs.declared.atlas.Atlas.{Atlas}
use Rattle.phone_library.specs.Facts.{region_of_number}
use Rattle.phone_records.specs.declared.loader.Metadata.{Metadata}
use Rattle.phone_values.specs.Ids.{name}
use Rattle.phone_values.specs.declared.country.Id.{Id}
use Rattle.phone_values.specs.declared.reading.Reading.{Reading}
use Rattle.phone_places.specs.Areas.{IsAreaOf}
use Rattle.phone_places.specs.Countries.{country_name}

-- a user's region is told, and isn't this one: another, or no region's id in capitals
abbrev pub is_elsewhere : Option (List ℕ) → Id → Bool
is_elsewhere user region = option_map_or (λ u. not (bytes_eq u (name region))) user false

-- the area of a number; where it is empty, the name of the number's country
abbrev pub IsAreaOrCountry : List Metadata → Atlas → Reading → List ℕ → Type 0
IsAreaOrCountry db atlas n text = (area : List ℕ) × IsAreaOf db atlas n area ×
    (text ≡ (if length area == 0 then country_name db atlas n else area))

-- what a user in a region is told of a number of this one: elsewhere its region's name, and no area
pub data IsDescribedIn (region : Id) (db : List Metadata) (atlas : Atlas)
    (user : Option (List ℕ)) (n : Reading) : List ℕ → Type 0 where
  elsewhere : is_elsewhere user region ≡ true →
      IsDescribedIn region db atlas user n (name_in atlas (name region))
  here : (text : List ℕ) → is_elsewhere user region ≡ false → IsAreaOrCountry db atlas n text →
      IsDescribedIn region db atlas user n text

-- the description of a number as it stands: nothing without a region
pub data IsDescribed (db : List Metadata) (atlas : Atlas) (user : Option (List ℕ)) (n : Reading) :
    List ℕ → Type 0 where
  nowhere : region_of_number db n ≡ None → IsDescribed db atlas user n []
  somewhere : (region : Id) (text : List ℕ) → region_of_number db n ≡ Some region →
      IsDescribedIn region db atlas user n text → IsDescribed db atlas user n text
