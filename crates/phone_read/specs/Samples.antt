-- A small database under which whole texts are read.
use Rattle.std.specs.Prelude.{[], ◌∷◌, codes, Some}
use Rattle.phone_records.specs.Empty.{no_descriptor, no_metadata}
use Rattle.phone_records.specs.declared.loader.Metadata.{Metadata}

-- New Zealand: calling code 64, national prefix 0, numbers of eight digits
abbrev pub nz : Metadata
nz = record no_metadata {
  general = Some (record no_descriptor {
    national_number = Some (codes "\\d{8}");
    possible_length = 8 ∷ [];
  });
  id = Some (codes "NZ");
  country_code = Some 64;
  national_prefix = Some (codes "0");
}
