-- What columns and objects tell of a number beside its answer.
use Rattle.std.specs.Prelude.{ℕ, List, [], chars, codes, encode_utf8_all, take, unwrap_or}
use Rattle.phone_values.specs.Numbers.{text_of}
use Rattle.phone_values.specs.declared.reading.Reading.{Reading}
use Rattle.phone_values.specs.declared.rules.Rules.{Rules}
use Rattle.phone_places.specs.Maps.{code_digits}
use Rattle.phone_questions.specs.Groups.{area_length}
use Rattle.phone_records.specs.declared.loader.Metadata.{Metadata}
use Rattle.phone_engine.specs.Possibilities.{possibility_of}
use Rattle.phone_engine.specs.declared.possibilities.Possibility.{Possibility}
use Rattle.phone_engine.specs.declared.possibilities.Possibility.TheVariants.{Possible}
use Rattle.phone_engine.specs.declared.possibilities.Possibility.TheVariants.{PossibleLocally}
use Rattle.phone_engine.specs.declared.possibilities.Possibility.TheVariants.{TooLong, TooShort}
use Rattle.phone_engine.specs.declared.possibilities.Possibility.TheVariants.{UnknownCode}
use Rattle.phone_engine.specs.declared.possibilities.Possibility.TheVariants.{WrongLength}
use Rattle.phone_answers.specs.declared.parts.Part.{Part}
use Rattle.phone_answers.specs.declared.parts.Part.TheVariants as part
use Rattle.phone_answers.specs.declared.parts.Part.TheVariants.{AreaCode, CallingCode, Extension}
use Rattle.phone_answers.specs.declared.parts.Part.TheVariants.{NationalNumber}

-- what the count of a number's digits says, in a word
abbrev pub possibility_word : Possibility → List ℕ
possibility_word Possible = codes "possible"
possibility_word PossibleLocally = codes "possible-locally"
possibility_word TooShort = codes "too-short"
possibility_word TooLong = codes "too-long"
possibility_word WrongLength = codes "wrong-length"
possibility_word UnknownCode = codes "unknown-code"

-- that of a number
abbrev pub possibility_told : Rules → List Metadata → Reading → List ℕ
possibility_told rules db n = possibility_word (possibility_of rules db n)

-- the digits of the code of a number's area: the first ones of its national number, so many as its
-- area code has
abbrev pub area_code : List Metadata → Reading → List ℕ
area_code db n = encode_utf8_all (take (area_length db n) (chars (text_of n.national)))

-- a part of a number: its extension, which is empty where it has none; the digits of its calling
-- code; its national number, the leading zeros with the value; what the count of its digits says;
-- its area code, which is empty where it has none
abbrev pub part_told : Rules → List Metadata → Part → Reading → List ℕ
part_told rules db Extension n = unwrap_or n.extension []
part_told rules db CallingCode n = code_digits n
part_told rules db NationalNumber n = text_of n.national
part_told rules db part.Possibility n = possibility_told rules db n
part_told rules db AreaCode n = area_code db n
