-- What a number's kind, its region and its layout tell of it.
use Rattle.std.specs.Prelude.{List}
use Rattle.phone_values.specs.declared.reading.Reading.{Reading}
use Rattle.phone_records.specs.declared.loader.Metadata.{Metadata}
use Rattle.phone_questions.specs.Belonging.{is_dialled_from_abroad, is_geographical}
use Rattle.phone_questions.specs.Groups.{area_length, destination_length}
use Rattle.phone_questions.specs.declared.details.NumberDetails.{NumberDetails}

-- how many of its digits are its area's code, how many its destination code; whether it is of a
-- place, and whether it can be dialled from abroad
abbrev pub details_of : List Metadata → Reading → NumberDetails
details_of db n = record {
  area_length = area_length db n;
  destination_length = destination_length db n;
  is_geographical = is_geographical db n;
  is_dialled_from_abroad = is_dialled_from_abroad db n;
}
