-- What columns tell of the two numbers in a field that has two.
use Rattle.std.specs.Prelude.{◌≡◌, ◌⊎◌, ℕ, List, [], chars, Option, None, Some}
use Rattle.std.specs.Str.{IsUtf8, trim}
use Rattle.phone_csv.specs.Formats.{Record}
use Rattle.phone_doubts.specs.Valid.{AreReadAsTwo, IsNoPair}
use Rattle.phone_plans.specs.CodeLookUps.{first_of, territories}
use Rattle.phone_records.specs.declared.loader.Metadata.{Metadata}
use Rattle.phone_values.specs.declared.country.Id.{Id}
use Rattle.phone_values.specs.declared.reading.Reading.{Reading}
use Rattle.phone_values.specs.declared.rules.Rules.{Rules}
use Rattle.phone_answers.specs.Fields.{in_answer, of_number}
use Rattle.phone_answers.specs.declared.field.Field.TheVariants as field
use Rattle.phone_answers.specs.declared.split.Shown.{Shown}
use Rattle.phone_answers.specs.declared.split.Shown.TheVariants.{E164, Kind, Region}
use Rattle.phone_answers.specs.declared.split.Which.{Which}
use Rattle.phone_answers.specs.declared.split.Which.TheVariants.{First, Second}

-- one of two numbers
abbrev pub one_of : Which → (first second : Reading) → Reading
one_of First n k = n
one_of Second n k = k

-- what is told of a number of a listed code: its E.164 text, its type or its region
abbrev pub shown_of : Rules → List Metadata → Metadata → Reading → Shown → List ℕ
shown_of rules db m n E164 = of_number rules db m n field.E164
shown_of rules db m n Kind = of_number rules db m n field.Kind
shown_of rules db m n Region = of_number rules db m n field.Region

-- a number's code is listed
abbrev pub IsListed : List Metadata → Reading → Type 0
IsListed db n = ¬ (first_of (territories n.code.value db) ≡ None)

-- this is told of a number, whose code is listed
abbrev pub IsShown : Rules → List Metadata → Reading → Shown → List ℕ → Type 0
IsShown rules db n shown text = (m : Metadata) ×
    (first_of (territories n.code.value db) ≡ Some m) × (text ≡ shown_of rules db m n shown)

-- where that stands in the answer to a number
abbrev pub shown_in : Record → Shown → List ℕ
shown_in answer E164 = in_answer answer field.E164
shown_in answer Kind = in_answer answer field.Kind
shown_in answer Region = in_answer answer field.Region

-- what is told of one of the two numbers that a text is; nothing where it isn't two
pub data IsSplitText (rules : Rules) (db : List Metadata) (hint : Option Id) (t : List ℕ)
    (which : Which) (shown : Shown) : List ℕ → Type 0 where
  no_pair : IsNoPair rules db hint t → IsSplitText rules db hint t which shown []
  pair : (n k : Reading) (text : List ℕ) → AreReadAsTwo rules db hint t n k →
      IsShown rules db (one_of which n k) shown text →
      IsSplitText rules db hint t which shown text

-- the same of a field that was read under a hint, without the white space around it; nothing where
-- it wasn't read, or its bytes are no text
abbrev pub IsSplit : Rules → List Metadata → (under : Option (Option Id)) → (field : List ℕ) →
    Which → Shown → List ℕ → Type 0
IsSplit rules db None field which shown text = text ≡ []
IsSplit rules db (Some hint) field which shown text =
    (IsUtf8 field × IsSplitText rules db hint (chars (trim field)) which shown text) ⊎
    (¬ (IsUtf8 field) × (text ≡ []))
