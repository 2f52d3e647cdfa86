-- What a line is answered as a JSON object.
use Rattle.std.specs.Prelude.{◌≡◌, ℕ, List, [], ◌∷◌, Option, Some, Result, IfOk, codes}
use Rattle.std.specs.Prelude.{String}
use Rattle.std.specs.BTreeMap.{BTreeMap}
use Rattle.std.specs.Option.{option_map_or}
use Rattle.std.specs.Str.{IsUtf8}
use Rattle.std.specs.declared.alloc.AllocError.{AllocError}
use Rattle.std.specs.declared.alloc.Global.{Global}
use Rattle.serde_json.specs.Data.{Data, Members, null, string, number, unsigned, object, put}
use Rattle.serde_json.specs.Data.{no_members}
use Rattle.serde_json.specs.Read.{read}
use Rattle.serde_json.specs.View.{members_view}
use Rattle.serde_json.specs.Written.{compact_text}
use Rattle.serde_json.specs.declared.value.Value.{Value}
use Rattle.phone_values.specs.declared.country.Id.{Id}
use Rattle.phone_values.specs.declared.reading.Reading.{Reading}
use Rattle.phone_csv.specs.Formats.{Record}
use Rattle.phone_records.specs.declared.loader.Metadata.{Metadata}
use Rattle.phone_values.specs.declared.rules.Rules.{Rules}
use Rattle.phone_answers.specs.Answers.{IsFieldAnswer}
use Rattle.phone_answers.specs.Extras.{AreTold}
use Rattle.phone_answers.specs.Fields.{fields, in_answer, name_of}
use Rattle.phone_answers.specs.Parts.{part_told}
use Rattle.phone_answers.specs.Spelled.{number_in, spelled}
use Rattle.phone_answers.specs.declared.extra.Extra.{Extra}
use Rattle.phone_answers.specs.declared.extra.Subject.{Subject}
use Rattle.phone_answers.specs.declared.field.Field.{Field}
use Rattle.phone_answers.specs.declared.parts.Part.TheVariants.{AreaCode, CallingCode}
use Rattle.phone_answers.specs.declared.parts.Part.TheVariants.{NationalNumber, Possibility}

-- these members, and what fields tell in an answer, each by its name
abbrev pub with_fields : List Field → Record → Members → Members
with_fields [] answer ms = ms
with_fields (field ∷ more) answer ms =
    with_fields more answer (put (name_of field) (string (in_answer answer field)) ms)

-- a part of a number; empty where there is none
abbrev pub told_of : (Reading → List ℕ) → Option Reading → Data
told_of part n = string (option_map_or part n [])

-- these members, and the parts of a number that was read: its calling code, its national number,
-- what the count of its digits says, its area code
abbrev pub with_parts : Rules → List Metadata → Option Reading → Members → Members
with_parts rules db n ms =
    put (codes "area_code") (told_of (part_told rules db AreaCode) n) (
    put (codes "possibility") (told_of (part_told rules db Possibility) n) (
    put (codes "national_number") (told_of (part_told rules db NationalNumber) n) (
    put (codes "calling_code") (told_of (part_told rules db CallingCode) n) ms)))

-- these members, and what columns tell, each by its heading
abbrev pub with_told : List Extra → Record → Members → Members
with_told [] texts ms = ms
with_told (column ∷ columns) [] ms = ms
with_told (column ∷ columns) (text ∷ texts) ms =
    with_told columns texts (put column.heading.now (string text) ms)

-- the members of the object of a line but for what columns tell: its number, its text, the fields
-- of its answer by their names, and parts of the number that was read in it
abbrev pub members_of : Rules → List Metadata → ℕ → Data → Option Reading → Record → Members
members_of rules db line text n answer =
    with_parts rules db n (
    with_fields fields answer (
    put (codes "text") text (
    put (codes "line") (number (unsigned line)) no_members)))

-- the object of a line: those members, and then what columns tell of it
abbrev pub object_of : Rules → List Metadata → ℕ → Data → Option Reading → Record → List Extra →
    Record → Data
object_of rules db line text n answer extra told =
    object (with_told extra told (members_of rules db line text n answer))

-- the object of a field as it was read, with what columns tell of it
abbrev pub IsObjectOf : Rules → List Metadata → List Extra → ℕ → Data → Subject → Data → Type 0
IsObjectOf rules db extra line text s d = (told : Record) ×
    AreTold rules db s.under s.field.now (number_in s.answer.now) extra told ×
    (d ≡ object_of rules db line text (number_in s.answer.now) (spelled s.answer.now) extra told)

-- the members of an object that is being made are these, unless memory was refused
abbrev pub AreMade : Result (BTreeMap (String Global) Value) AllocError → Members → Type 0
AreMade made ms = IfOk made (λ m. members_view m.entries ≡ ms)

-- what a line is answered: its object, whose text is null where the line is none, and which has
-- what columns tell of the line under the hint
pub data IsObject (rules : Rules) (db : List Metadata) (short : Option (List Metadata))
    (extra : List Extra) (hint : Option Id) (place : ℕ) (line : List ℕ) : Data → Type 0 where
  no_text : (number : Option Reading) (answer told : Record) → ¬ (IsUtf8 line) →
      IsFieldAnswer rules db short hint line number answer →
      AreTold rules db (Some hint) line number extra told →
      IsObject rules db short extra hint place line
      (object_of rules db place null number answer extra told)
  of_text : (number : Option Reading) (answer told : Record) → IsUtf8 line →
      IsFieldAnswer rules db short hint line number answer →
      AreTold rules db (Some hint) line number extra told →
      IsObject rules db short extra hint place line
      (object_of rules db place (string line) number answer extra told)

-- this text is that object, and what reads it reads that object
abbrev pub IsObjectLine : Rules → List Metadata → Option (List Metadata) → List Extra →
    Option Id → ℕ → List ℕ → List ℕ → Type 0
IsObjectLine rules db short extra hint place line text = (d : Data) ×
    IsObject rules db short extra hint place line d × (text ≡ compact_text d) ×
    (read text ≡ Some d)
