-- The fields of an answer: a table of their names and places, and of what each tells.
use Rattle.std.specs.Prelude.{◌-◌, ℕ, List, [], ◌∷◌, codes, get_or, length, map, None}
use Rattle.std.specs.Prelude.{string_bytes}
use Rattle.std.specs.Borrow.{Bor}
use Rattle.phone_csv.specs.Formats.{Record}
use Rattle.phone_engine.specs.Facts.{is_valid_by, kind_by, printed_as, region_by}
use Rattle.phone_engine.specs.Words.{kind_word, region_word, validity_word}
use Rattle.phone_print.specs.Texts.{text_by_rules}
use Rattle.phone_records.specs.declared.loader.Metadata.{Metadata}
use Rattle.phone_short.specs.Kinds.{kind_name}
use Rattle.phone_short.specs.declared.kind.ShortKind.{ShortKind}
use Rattle.phone_values.specs.Ids.{name}
use Rattle.phone_values.specs.declared.country.Id.{Id}
use Rattle.phone_values.specs.declared.mode.Mode.TheVariants as mode
use Rattle.phone_values.specs.declared.reading.Reading.{Reading}
use Rattle.phone_values.specs.declared.rules.Rules.{Rules}
use Rattle.phone_answers.specs.declared.answer.Known.{Known}
use Rattle.phone_answers.specs.declared.field.Field.{Field}
use Rattle.phone_answers.specs.declared.field.Field.TheVariants.{E164, International, Kind}
use Rattle.phone_answers.specs.declared.field.Field.TheVariants.{National, Refusal, Region}
use Rattle.phone_answers.specs.declared.field.Field.TheVariants.{Validity}

-- those that tell of a number, in their order
abbrev pub number_fields : List Field
number_fields = E164 ∷ International ∷ National ∷ Kind ∷ Region ∷ Validity ∷ []

-- all of them, in their order
abbrev pub fields : List Field
fields = E164 ∷ International ∷ National ∷ Kind ∷ Region ∷ Validity ∷ Refusal ∷ []

-- the name of a field
abbrev pub name_of : Field → List ℕ
name_of E164 = codes "e164"
name_of International = codes "international"
name_of National = codes "national"
name_of Kind = codes "type"
name_of Region = codes "region"
name_of Validity = codes "validity"
name_of Refusal = codes "refusal"

-- the place of a field, counted from the end
abbrev pub from_end : Field → ℕ
from_end E164 = 7
from_end International = 6
from_end National = 5
from_end Kind = 4
from_end Region = 3
from_end Validity = 2
from_end Refusal = 1

-- what a field tells of a number of a listed code: one of its texts in three modes, or what is
-- known of it; no refusal
abbrev pub of_number : Rules → List Metadata → Metadata → Reading → Field → List ℕ
of_number rules db m n E164 = text_by_rules rules m mode.E164 None (printed_as rules n)
of_number rules db m n International =
    text_by_rules rules m mode.International None (printed_as rules n)
of_number rules db m n National = text_by_rules rules m mode.National None (printed_as rules n)
of_number rules db m n Kind = kind_word (kind_by rules db n)
of_number rules db m n Region = region_word (region_by rules db n)
of_number rules db m n Validity = validity_word (is_valid_by rules db n)
of_number rules db m n Refusal = []

-- the same by what is known of the number
abbrev pub of_known : Known → Field → List ℕ
of_known k E164 = string_bytes k.texts.e164
of_known k International = string_bytes k.texts.international
of_known k National = string_bytes k.texts.national
of_known k Kind = kind_word k.facts.kind
of_known k Region = region_word k.facts.region
of_known k Validity = validity_word k.facts.is_valid
of_known k Refusal = []

-- what a field tells of a short number: its kind, its region, and that it is valid
abbrev pub of_short : Id → ShortKind → Field → List ℕ
of_short region kind Kind = kind_name kind
of_short region kind Region = name region
of_short region kind Validity = codes "valid"
of_short region kind other = []

-- what a field tells of a refusal by these words: the last one has them
abbrev pub of_refusal : List ℕ → Field → List ℕ
of_refusal words Refusal = words
of_refusal words other = []

-- an answer: what each field tells
abbrev pub answer_by : (Field → List ℕ) → Record
answer_by told = map told fields

-- the names of its fields
abbrev pub names : Record
names = answer_by name_of

-- the field of an answer
abbrev pub in_answer : Record → Field → List ℕ
in_answer answer field = get_or answer (length fields - from_end field) []

-- texts that are lent, as fields
abbrev pub texts_of : List (Bor (List ℕ)) → Record
texts_of texts = map (λ (t : Bor (List ℕ)). t.now) texts
