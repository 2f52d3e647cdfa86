-- What libphonenumber's formatter shows of a number while it is typed, and where the caret stands.
use Rattle.std.specs.Prelude.{◌≡◌, ℕ, List, Option, chars}
use Rattle.phone_values.specs.declared.country.Id.{Id}
use Rattle.phone_records.specs.declared.loader.Metadata.{Metadata}
use Rattle.phone_typed.specs.Carets.{caret}
use Rattle.phone_typed.specs.KeyedFields.{Field, empty}
use Rattle.phone_typed.specs.Steps.{typed_all}

-- the field in which the characters of a text are typed, under a hint
abbrev pub field_of : List Metadata → Option Id → (text : List ℕ) → Field
field_of db hint text = typed_all (chars text) (empty db hint)

-- this is shown of the text
abbrev pub IsShown : List Metadata → Option Id → (text shown : List ℕ) → Type 0
IsShown db hint text shown = shown ≡ (field_of db hint text).shown

-- after so many characters of what is shown the n-th character of the text stands
abbrev pub IsCaret : List Metadata → Option Id → (text : List ℕ) → (n place : ℕ) → Type 0
IsCaret db hint text n place = place ≡ caret n (field_of db hint text)
