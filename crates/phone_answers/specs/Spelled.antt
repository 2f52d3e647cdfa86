-- The fields of an answer, and the number that was read.
use Rattle.std.specs.Prelude.{◌≡◌, ⊤, Bool, false, List, [], ◌∷◌, string_bytes}
use Rattle.std.specs.Prelude.{Option, None, Some}
use Rattle.phone_values.specs.declared.reading.Reading.{Reading}
use Rattle.phone_csv.specs.Formats.{Record}
use Rattle.phone_records.specs.declared.loader.Metadata.{Metadata}
use Rattle.phone_places.specs.Maps.{digits_of}
use Rattle.phone_engine.specs.Facts.{is_valid_by, kind_by, region_by}
use Rattle.phone_values.specs.declared.rules.Rules.{Rules}
use Rattle.phone_answers.specs.Answers.{refused_answer}
use Rattle.phone_answers.specs.Fields.{answer_by, of_known}
use Rattle.phone_answers.specs.Shorts.{short_answer}
use Rattle.phone_answers.specs.declared.answer.Answer.{Answer}
use Rattle.phone_answers.specs.declared.answer.Answer.TheVariants.{Number, Refused, Short}
use Rattle.phone_answers.specs.declared.answer.Known.{Known}

-- what is known of a number, as an answer's fields
abbrev pub spelled_known : Known → Record
spelled_known k = answer_by (of_known k)

-- an answer, as it is put behind a record
abbrev pub spelled : Answer → Record
spelled (Number number known) = spelled_known known
spelled (Short region kind) = short_answer region kind
spelled (Refused words) = refused_answer words.now

-- the number that an answer is of
abbrev pub number_in : Answer → Option Reading
number_in (Number number known) = Some number
number_in other = None

-- an answer is of a number that is valid
abbrev pub is_valid_in : Answer → Bool
is_valid_in (Number number known) = known.facts.is_valid
is_valid_in other = false

-- this is known of a number
pub record IsKnown (rules : Rules) (db : List Metadata) (n : Reading) (k : Known) : Type 0 where
  pub e164 : string_bytes k.texts.e164 ≡ 43 ∷ digits_of n
  pub kind : k.facts.kind ≡ kind_by rules db n
  pub region : k.facts.region ≡ region_by rules db n
  pub is_valid : k.facts.is_valid ≡ is_valid_by rules db n

-- what an answer knows is known of its number
abbrev pub IsKnownIn : Rules → List Metadata → Answer → Type 0
IsKnownIn rules db (Number number known) = IsKnown rules db number known
IsKnownIn rules db other = ⊤
