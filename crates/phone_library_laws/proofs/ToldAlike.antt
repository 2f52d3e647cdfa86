-- Whatever a printed text of a number is read as is told as the number is.
use Rattle.std.proofs.Common.{◌≡◌, ℕ, List, Option, Ok, subst, refl}
use Rattle.phone_values.specs.declared.country.Id.{Id}
use Rattle.phone_values.specs.declared.reading.Reading.{Reading}
use Rattle.phone_library.specs.Readings.{ReadsByLibrary}
use Rattle.phone_library_laws.specs.Again.{e164_reading}
use Rattle.phone_library_laws.proofs.ReadOnce.{reading_same}
use Rattle.phone_library_text.proofs.WrittenOnes.{written_same}
use Rattle.phone_records.specs.declared.loader.Metadata.{Metadata}
use Rattle.phone_library_laws.specs.Printed.{inside_reading, printed_reading}
use Rattle.phone_library_laws.specs.Told.{AreToldAlike}

module _ (db : List Metadata) (hint : Option Id) (t : List ℕ) (n r again : Reading)
    (read : ReadsByLibrary db hint t (Ok r)) (back : ReadsByLibrary db hint t (Ok again)) where
  same : again ≡ r
  same = let one : Ok again ≡ Ok r =
      reading_same written_same db hint t (Ok again) (Ok r) back read in cc

  pub told_alike : AreToldAlike db again n → AreToldAlike db r n
  told_alike told = subst (λ m. AreToldAlike db m n) same told

pub printed_alike : (db : List Metadata) (n : Reading) → AreToldAlike db (printed_reading n) n
printed_alike db n = record {
  code = refl;
  national = refl;
  region = refl;
  kind = refl;
  valid = refl;
  possible = refl;
}

pub inside_alike : (db : List Metadata) (n : Reading) (carrier : Option (List ℕ)) →
    AreToldAlike db (inside_reading n carrier) n
inside_alike db n carrier = record {
  code = refl;
  national = refl;
  region = refl;
  kind = refl;
  valid = refl;
  possible = refl;
}

pub e164_alike : (db : List Metadata) (n : Reading) → AreToldAlike db (e164_reading n) n
e164_alike db n = record {
  code = refl;
  national = refl;
  region = refl;
  kind = refl;
  valid = refl;
  possible = refl;
}
