-- Examples that are numbers of their kind and region.
use Rattle.std.specs.Prelude.{◌≡◌, ◌≤◌, List, length, Option, None, Some}
use Rattle.phone_values.specs.Numbers.{National, text_of}
use Rattle.phone_values.specs.declared.country.Id.{Id}
use Rattle.phone_values.specs.declared.country.Source.TheVariants.{Default}
use Rattle.phone_values.specs.declared.kind.«Type».{«Type»}
use Rattle.phone_values.specs.declared.reading.Reading.{Reading}
use Rattle.phone_library.specs.Facts.{territory_of_number}
use Rattle.phone_library.specs.Kinds.{kind_in}
use Rattle.phone_library_laws.specs.Plain.{IsDialledInside}
use Rattle.phone_read.specs.Hints.{hinted}
use Rattle.phone_records.specs.declared.loader.Metadata.{Metadata}
use Rattle.phone_territory.specs.Records.{code_of}
use Rattle.phone_further.specs.Examples.{example_in}

-- a national number of a territory
abbrev pub number_in : Metadata → National → Reading
number_in m national = record {
  code = record { value = code_of m; source = Default };
  national = national;
  extension = None;
  carrier = None;
}

-- a territory is the one of a region, and its example of a kind fits: the digits, three or more,
-- are dialled inside the territory as they stand; this is the number's territory, and there they
-- are of the kind
pub record IsFitting (db : List Metadata) (region : Id) (m : Metadata) (k : «Type») : Type 0 where
  pub national : National
  pub is_hint : hinted db (Some region) ≡ Some m
  pub given : example_in m k ≡ Some (text_of national)
  pub enough : 3 ≤ length (text_of national)
  pub dialled : IsDialledInside m (number_in m national) (text_of national)
  pub own : territory_of_number db (number_in m national) ≡ Some m
  pub of_kind : kind_in m (text_of national) ≡ k
