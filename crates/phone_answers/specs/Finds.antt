-- What is told of a number that was found in a text.
use Rattle.std.specs.Prelude.{◌≡◌, ℕ, List, [], ◌∷◌, codes, Some, unwrap_or}
use Rattle.std.specs.Fmt.{decimal}
use Rattle.serde_json.specs.Data.{Data, string, number, unsigned, object, put, no_members}
use Rattle.serde_json.specs.Written.{compact_text}
use Rattle.phone_values.specs.declared.rules.Rules.{Rules}
use Rattle.phone_values.specs.declared.reading.Reading.{Reading}
use Rattle.phone_csv.specs.Formats.{Record}
use Rattle.phone_plans.specs.CodeLookUps.{first_of, territories}
use Rattle.phone_records.specs.declared.loader.Metadata.{Metadata}
use Rattle.phone_answers.specs.Answers.{number_answer}
use Rattle.phone_answers.specs.Fields.{in_answer, number_fields}
use Rattle.phone_answers.specs.Objects.{with_fields, with_parts}
use Rattle.phone_answers.specs.declared.field.Field.TheVariants.{E164, Kind, Region}
use Rattle.phone_answers.specs.declared.finds.Spot.{Spot}

-- the object of a number that was found: its line and column, the piece of the text, the fields of
-- its answer but the refusal by their names, its parts, and its extension
abbrev pub object_of_found : Rules → List Metadata → Spot → Reading → Record → Data
object_of_found rules db spot n answer = object (
    put (codes "extension") (string (unwrap_or n.extension [])) (
    with_parts rules db (Some n) (
    with_fields number_fields answer (
    put (codes "text") (string spot.piece.now) (
    put (codes "column") (number (unsigned spot.column)) (
    put (codes "line") (number (unsigned spot.line)) no_members))))))

-- this text is that object, the number's answer being by the first territory of its code
abbrev pub IsFoundObject : Rules → List Metadata → Spot → Reading → List ℕ → Type 0
IsFoundObject rules db spot n text = (m : Metadata) ×
    (first_of (territories n.code.value db) ≡ Some m) ×
    (text ≡ compact_text (object_of_found rules db spot n (number_answer rules db m n)))

-- the record of a number that was found: its line and column, its E.164 text, kind and region, its
-- extension, and the piece of the text
abbrev pub found_record : Spot → List ℕ → Record → Record
found_record spot extension answer = decimal spot.line ∷ decimal spot.column ∷
    in_answer answer E164 ∷ in_answer answer Kind ∷ in_answer answer Region ∷ extension ∷
    spot.piece.now ∷ []

-- the names of its columns
abbrev pub found_names : Record
found_names = codes "line" ∷ codes "column" ∷ codes "e164" ∷ codes "type" ∷
    codes "region" ∷ codes "extension" ∷ codes "text" ∷ []

-- these fields are that record, the number's answer being by the first territory of its code
abbrev pub IsFoundRecord : Rules → List Metadata → Spot → Reading → Record → Type 0
IsFoundRecord rules db spot n fields = (m : Metadata) ×
    (first_of (territories n.code.value db) ≡ Some m) ×
    (fields ≡ found_record spot (unwrap_or n.extension []) (number_answer rules db m n))
