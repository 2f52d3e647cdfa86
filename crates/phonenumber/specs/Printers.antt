-- What a printer holds.
use Rattle.std.specs.Prelude.{ℕ, List, Option}
use Rattle.std.specs.Option.{option_copied}
use Rattle.phone_values.specs.declared.mode.Mode.{Mode}
use Rattle.phone_records.specs.declared.loader.Format.{Format}
use Rattle.phone_records.specs.declared.loader.Metadata.{Metadata}
use Rattle.phone_values.specs.declared.reading.Reading.{Reading}
use Rattle.phonenumber.specs.Printed.{printed_texts}
use Rattle.phonenumber.specs.Printed.{printed}
use Rattle.phonenumber.specs.declared.formatter.Formatter.{Formatter}

-- the database of a printer
abbrev pub database_of : Formatter → List Metadata
database_of f = f.database.now

-- its number
abbrev pub number_of : Formatter → Reading
number_of f = f.number.now

-- its mode
abbrev pub mode_of : Formatter → Mode
mode_of f = f.mode

-- the layout that was handed in, if one was
abbrev pub layout_of : Formatter → Option Format
layout_of f = option_copied f.format

-- what it prints: the number's text in its mode; none where the code is not listed
abbrev pub text_of : Formatter → Option (List ℕ)
text_of f = printed (database_of f) (mode_of f) (layout_of f) (number_of f)

-- the texts that it prints in the four modes, parted by tabs; none where the code is not listed
abbrev pub texts_of : Formatter → Option (List ℕ)
texts_of f = printed_texts (database_of f) (layout_of f) (number_of f)
