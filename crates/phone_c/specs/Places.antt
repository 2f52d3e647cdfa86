-- What is told of where a number is that is given as plain numbers.
use Rattle.std.specs.Prelude.{◌≡◌, ◌≢◌, ◌==◌, ℕ, true, false, if◌then◌else◌, List, [], length}
use Rattle.std.specs.Prelude.{Option, None, Some}
use Rattle.phone_languages.specs.Atlases.{IsCarrier}
use Rattle.phone_languages.specs.declared.atlas.Atlas as lent
use Rattle.phone_library.specs.Facts.{kind_of_number}
use Rattle.phone_places.specs.Maps.{code_digits, digits_of, has_carrier}
use Rattle.phone_places.specs.Carriers.{is_portable}
use Rattle.phone_places.specs.Countries.{country_name}
use Rattle.phone_places.specs.Descriptions.{IsDescribed}
use Rattle.phone_places.specs.Placed.{is_placed}
use Rattle.phone_places.specs.Zones.{AreZones, unknown_zone}
use Rattle.phone_prefixes.specs.Tables.{Entry}
use Rattle.phone_records.specs.declared.loader.Metadata.{Metadata}
use Rattle.phone_values.specs.declared.kind.«Type».TheVariants.{Unknown}
use Rattle.phone_values.specs.declared.reading.Reading.{Reading}
use Rattle.phone_c_base.specs.Numbers.{IsNumber}
use Rattle.phone_c_base.specs.declared.number.Number as plain
use Rattle.phone_c.specs.Atlases.{IsLentOf}
use Rattle.phone_c.specs.declared.places.owned.OwnedAtlas.{OwnedAtlas}

-- the user's region: none where there is no byte
abbrev pub user_of : List ℕ → Option (List ℕ)
user_of user = if length user == 0 then None else Some user

-- the description of a number by its kind: nothing where that is unknown; that of its place, or of
-- its country where it is of no place
pub record IsDescription (db : List Metadata) (atlas : lent.Atlas) (user : Option (List ℕ))
    (n : Reading) (text : List ℕ) : Type 0 where
  pub unknown : kind_of_number db n ≡ Unknown → text ≡ []
  pub at_place : is_placed db n ≡ true → IsDescribed db atlas user n text
  pub elsewhere : kind_of_number db n ≢ Unknown → is_placed db n ≡ false →
      text ≡ country_name db atlas n

-- the carrier of a number by its kind: nothing where no number of the kind has one
pub record IsCarrierByKind (db : List Metadata) (atlas : lent.Atlas) (n : Reading)
    (text : List ℕ) : Type 0 where
  pub told : has_carrier (kind_of_number db n) ≡ true → IsCarrier atlas (digits_of n) text
  pub none : has_carrier (kind_of_number db n) ≡ false → text ≡ []

-- the carrier that is safe to show as today's: nothing where numbers can be kept when the carrier
-- changes
pub record IsSafeCarrier (db : List Metadata) (atlas : lent.Atlas) (n : Reading)
    (text : List ℕ) : Type 0 where
  pub portable : is_portable db n ≡ true → text ≡ []
  pub told : is_portable db n ≡ false → has_carrier (kind_of_number db n) ≡ true →
      IsCarrier atlas (digits_of n) text
  pub none : has_carrier (kind_of_number db n) ≡ false → text ≡ []

-- the time zones of a number by its kind: the unknown one where that is unknown; those of its
-- digits where it is of a place, else those of its calling code
pub record AreZonesByKind (db : List Metadata) (zones : List Entry) (n : Reading)
    (text : List ℕ) : Type 0 where
  pub unknown : kind_of_number db n ≡ Unknown → text ≡ unknown_zone
  pub at_place : is_placed db n ≡ true → AreZones zones (digits_of n) text
  pub elsewhere : kind_of_number db n ≢ Unknown → is_placed db n ≡ false →
      AreZones zones (code_digits n) text

-- an answer is given by a number's kind where the flag is 0, else of the number as it stands
pub record IsAsAsked (as_it_stands : ℕ) (ByKind AsItStands : Type 0) : Type 0 where
  pub by_kind : as_it_stands ≡ 0 → ByKind
  pub standing : ¬ (as_it_stands ≡ 0) → AsItStands

-- by tables that are lent, this is the description of a number
abbrev pub IsDescriptionBy : List Metadata → OwnedAtlas → Reading → (user : List ℕ) →
    (as_it_stands : ℕ) → List ℕ → Type 0
IsDescriptionBy db held n user as_it_stands text = (atlas : lent.Atlas) × IsLentOf held atlas ×
    IsAsAsked as_it_stands (IsDescription db atlas (user_of user) n text)
    (IsDescribed db atlas (user_of user) n text)

-- by tables that are lent, this is told of a number
abbrev pub IsToldBy : (tells : lent.Atlas → Reading → List ℕ → Type 0) → OwnedAtlas → Reading →
    List ℕ → Type 0
IsToldBy tells held n text = (atlas : lent.Atlas) × IsLentOf held atlas × tells atlas n text

-- of the number that plain numbers and bytes are
abbrev pub IsToldOf : (tells : lent.Atlas → Reading → List ℕ → Type 0) → OwnedAtlas →
    plain.Number → (bytes : List ℕ) → List ℕ → Type 0
IsToldOf tells held x bytes text = (n : Reading) × IsNumber x bytes n × IsToldBy tells held n text

-- it is the description of the number that plain numbers and bytes are
abbrev pub IsDescriptionOf : List Metadata → OwnedAtlas → plain.Number → (bytes user : List ℕ) →
    (as_it_stands : ℕ) → List ℕ → Type 0
IsDescriptionOf db held x bytes user as_it_stands text =
    (n : Reading) × IsNumber x bytes n × IsDescriptionBy db held n user as_it_stands text

-- its carrier
abbrev pub IsCarrierOf : List Metadata → OwnedAtlas → plain.Number → (bytes : List ℕ) →
    (as_it_stands : ℕ) → List ℕ → Type 0
IsCarrierOf db held x bytes as_it_stands text = IsToldOf (λ atlas n text. IsAsAsked as_it_stands
    (IsCarrierByKind db atlas n text) (IsCarrier atlas (digits_of n) text)) held x bytes text

-- its carrier that is safe to show
abbrev pub IsSafeCarrierOf : List Metadata → OwnedAtlas → plain.Number → (bytes : List ℕ) →
    List ℕ → Type 0
IsSafeCarrierOf db held x bytes text = IsToldOf (IsSafeCarrier db) held x bytes text

-- the name of its country
abbrev pub IsCountryOf : List Metadata → OwnedAtlas → plain.Number → (bytes : List ℕ) →
    List ℕ → Type 0
IsCountryOf db held x bytes text = IsToldOf (λ atlas n text. text ≡ country_name db atlas n)
    held x bytes text

-- by a table of zones, these are the time zones of the number that plain numbers and bytes are
abbrev pub AreZonesOf : List Metadata → List Entry → plain.Number → (bytes : List ℕ) →
    (as_it_stands : ℕ) → List ℕ → Type 0
AreZonesOf db zones x bytes as_it_stands text = (n : Reading) × IsNumber x bytes n ×
    IsAsAsked as_it_stands (AreZonesByKind db zones n text) (AreZones zones (digits_of n) text)
