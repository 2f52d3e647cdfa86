-- What is printed of a number, and what its texts are read as.
use Rattle.std.specs.Prelude.{ℕ, List, Option, None}
use Rattle.phone_values.specs.declared.country.Source.TheVariants.{Default, Plus}
use Rattle.phone_values.specs.declared.reading.Reading.{Reading}

-- a number as libphonenumber prints it: without the code of a carrier
abbrev pub uncarried : Reading → Reading
uncarried n = record n { carrier = None }

-- the number as a text with a plus sign tells it: with its extension, without a carrier
abbrev pub printed_reading : Reading → Reading
printed_reading n = record {
  code = record { value = n.code.value; source = Plus };
  national = n.national;
  extension = n.extension;
  carrier = None;
}

-- the number as its national text tells it: with the hint's code and its extension, and with the
-- carrier that stripping found
abbrev pub inside_reading : Reading → Option (List ℕ) → Reading
inside_reading n carrier = record (printed_reading n) {
  code = record { value = n.code.value; source = Default };
  carrier = carrier;
}
