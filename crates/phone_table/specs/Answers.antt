-- What a record of a table is answered: what the columns that are asked for tell, and fields of its
-- own.
use Rattle.std.specs.Prelude.{◌≡◌, ◌⊎◌, ℕ, true, false, List, ◌++◌, codes}
use Rattle.std.specs.Prelude.{length, Option, Some, None, option_map}
use Rattle.phone_values.specs.declared.country.Id.{Id}
use Rattle.phone_values.specs.declared.reading.Reading.{Reading}
use Rattle.phone_places.specs.declared.countries.Entry.{Entry}
use Rattle.phone_csv.specs.Formats.{Record}
use Rattle.phone_records.specs.declared.loader.Metadata.{Metadata}
use Rattle.phone_values.specs.declared.rules.Rules.{Rules}
use Rattle.phone_answers.specs.Extras.{AreTold}
use Rattle.phone_table.specs.Regions.{RecordNames, field_in, hint_under}
use Rattle.phone_table.specs.declared.header.Columns.{Columns}
use Rattle.phone_table.specs.declared.region.Named.{Named}
use Rattle.phone_table.specs.declared.run.Asked.{Asked}
use Rattle.phone_answers.specs.Answers.{refused_answer, IsFieldAnswer}

-- what the field of a number is answered under a hint; words of its own where there is none
abbrev pub IsAnswerUnder : Rules → List Metadata → Option (List Metadata) → Option (Option Id) →
    List ℕ → Option Reading → Record → Type 0
IsAnswerUnder rules db short None field number answer =
    (number ≡ None) × (answer ≡ refused_answer (codes "unknown region"))
IsAnswerUnder rules db short (Some hint) field number answer =
    IsFieldAnswer rules db short hint field number answer

-- the database of short numbers that is asked for
abbrev pub short_of : Asked → Option (List Metadata)
short_of asked = option_map (λ d. d.now) asked.short

-- the table of names of regions that is asked for
abbrev pub countries_of : Asked → Option (List Entry)
countries_of asked = option_map (λ c. c.now) asked.countries

-- a record has as many fields as the header
abbrev pub IsOfWidth : Columns → Record → Type 0
IsOfWidth columns fields = length fields ≡ columns.width

-- the hint under which a record's number is read, by the region that the record names; none where
-- it isn't read: the record names no region that there is, or has another count of fields
abbrev pub IsUnder : List Metadata → Option Id → Columns → Asked → Record → Option (Option Id) →
    Type 0
IsUnder db hint columns asked fields under =
    (IsOfWidth columns fields × (region : Named) ×
    RecordNames (countries_of asked) db columns.region fields region ×
    (under ≡ hint_under asked.else_hint hint region)) ⊎
    (¬ (IsOfWidth columns fields) × (under ≡ None))

-- a record with another count of fields is answered by words of its own, where such are marked
abbrev pub IsMarked : Columns → Asked → Record → Record → Type 0
IsMarked columns asked fields answer = (asked.mark_bad ≡ true) × ¬ (IsOfWidth columns fields) ×
    (answer ≡ refused_answer (codes "wrong count of fields"))

-- the fields of a record's own answer, and the number that was read under this hint: as its field
-- is answered, or so marked
abbrev pub IsOwnAnswer : Rules → List Metadata → Columns → Asked → Record →
    (under : Option (Option Id)) → Option Reading → Record → Type 0
IsOwnAnswer rules db columns asked fields under number answer = (IsOfWidth columns fields ×
    IsAnswerUnder rules db (short_of asked) under (field_in fields columns.number) number answer) ⊎
    ((number ≡ None) × IsMarked columns asked fields answer)

-- what a record is answered, of which this number was read: what the columns that are asked for
-- tell of its field, and of the number, and its own fields
abbrev pub IsAnswerOf : Rules → List Metadata → Option Id → Columns → Asked → Record →
    Option Reading → Record → Type 0
IsAnswerOf rules db hint columns asked fields number answer = (under : Option (Option Id)) ×
    (told : Record) × (own : Record) ×
    IsUnder db hint columns asked fields under ×
    IsOwnAnswer rules db columns asked fields under number own ×
    AreTold rules db under (field_in fields columns.number) number asked.extra.now told ×
    (answer ≡ told ++ own)

-- the same, whatever the number
abbrev pub IsAnswer : Rules → List Metadata → Option Id → Columns → Asked → Record → Record →
    Type 0
IsAnswer rules db hint columns asked fields answer = (number : Option Reading) ×
    IsAnswerOf rules db hint columns asked fields number answer

-- a record with another count of fields isn't answered, where such aren't marked
abbrev pub IsOfOtherWidth : Columns → Asked → Record → Type 0
IsOfOtherWidth columns asked fields = (asked.mark_bad ≡ false) × ¬ (IsOfWidth columns fields)
