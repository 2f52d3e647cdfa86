-- What the code holds while it reads a number, told in the words of the definitions.
use Rattle.std.specs.Prelude.{ℕ, List, Option, None, Some}
use Rattle.std.specs.Cow.{cow_str_bytes}
use Rattle.std.specs.Option.{option_copied}
use Rattle.phone_values.specs.declared.reading.Reading.{Reading}
use Rattle.phone_library.specs.Stripping.{untouched}
use Rattle.phone_library.specs.declared.codes.Coded.{Coded as HeldCoded}
use Rattle.phone_library.specs.declared.reading.MainNumber.{MainNumber}
use Rattle.phone_library.specs.declared.stripping.Left.{Left}
use Rattle.phone_read.specs.Strips.{Stripped}
use Rattle.phone_read.specs.Hints.{Coded}

-- what is left of digits: all of them where nothing was cut off
abbrev pub left_of : List ℕ → Option Left → Stripped
left_of digits None = untouched digits
left_of digits (Some left) = record {
  national = cow_str_bytes left.national;
  carrier = option_copied left.carrier;
}

-- a calling code and what follows it
abbrev pub told : HeldCoded → Coded
told c = record { source = c.source; value = c.value; rest = cow_str_bytes c.rest }

-- a number with an extension
abbrev pub read_as : Option (List ℕ) → MainNumber → Reading
read_as extension n = record {
  code = n.code;
  national = n.national;
  extension = extension;
  carrier = n.carrier;
}
