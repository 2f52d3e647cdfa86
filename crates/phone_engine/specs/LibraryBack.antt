-- Which dialled numbers are read back under the region as hint by libphonenumber's rules, and as
-- what.
use Rattle.std.specs.Prelude.{◌≡◌, ◌==◌, false, List, None, Some}
use Rattle.phone_values.specs.Ids.{name}
use Rattle.phone_values.specs.declared.country.Id.{Id}
use Rattle.phone_values.specs.declared.country.Source.{Source}
use Rattle.phone_values.specs.declared.reading.Reading.{Reading}
use Rattle.phone_values.specs.declared.rules.Rules.TheVariants.{Crate}
use Rattle.phone_library_laws.specs.Plain.{IsPlainInternational}
use Rattle.phone_library_laws.specs.Again.{IsSettled}
use Rattle.phone_plans.specs.Records.{last_with}
use Rattle.phone_records.specs.declared.loader.Metadata.{Metadata}
use Rattle.phone_territory.specs.Records.{code_of}

-- a number that is settled, and plain for international text, is dialled from a region of another
-- code
pub record IsSettledDialled (db : List Metadata) (region : Id) (n : Reading) : Type 0 where
  pub from : Metadata
  pub hinted : last_with (name region) db ≡ Some from
  pub other_code : (code_of from == n.code.value) ≡ false
  pub settled : IsSettled db n
  pub plain : IsPlainInternational Crate db n

-- the number, with its extension and without a carrier, whose code was found so
abbrev pub dialled_reading : Source → Reading → Reading
dialled_reading source n = record {
  code = record { value = n.code.value; source = source };
  national = n.national;
  extension = n.extension;
  carrier = None;
}
