-- The further columns of a table, or texts of objects, each by its name, what it tells, and whether
-- by a table.
use Rattle.std.specs.Prelude.{ℕ, Bool, false, true, List, [], ◌∷◌, ◌++◌, codes, map, Option, None}
use Rattle.std.specs.Prelude.{Some, is_some, unwrap_or}
use Rattle.phone_commands.specs.declared.columns.LoadedColumn.{LoadedColumn}
use Rattle.phone_commands.specs.declared.columns.Wanted.{Wanted}
use Rattle.phone_places.specs.declared.maps.Owner.TheVariants as owner
use Rattle.phone_answers.specs.declared.extra.Extra.{Extra}
use Rattle.phone_answers.specs.declared.extra.Told.{Told}
use Rattle.phone_answers.specs.declared.extra.Told.TheVariants.{Area, Carrier, Doubts, Part}
use Rattle.phone_answers.specs.declared.extra.Told.TheVariants.{Prefix, Split, TimeZones}
use Rattle.phone_answers.specs.declared.parts.Part.TheVariants.{AreaCode, CallingCode, Extension}
use Rattle.phone_answers.specs.declared.parts.Part.TheVariants.{NationalNumber, Possibility}
use Rattle.phone_answers.specs.declared.split.Shown.TheVariants.{E164, Kind, Region}
use Rattle.phone_answers.specs.declared.split.Which.{Which}
use Rattle.phone_answers.specs.declared.split.Which.TheVariants.{First, Second}
use Rattle.phone_languages.specs.Locales.{normalized, text_file}
use Rattle.phone_words.specs.Rows.{Lent, text_in}
use Rattle.phone_words.specs.declared.table.Further.{Further}

-- a column: its name, what it tells, and whether by a table
abbrev pub Column : Type 0
Column = List ℕ × Told × Bool

-- a column where a file is named for it, else none
abbrev pub column_if : List ℕ → Told → Option Lent → List Column
column_if heading told None = []
column_if heading told (Some file) = (heading, told, true) ∷ []

-- a column without a table where it is asked for, else none
abbrev pub part_if : List ℕ → Told → Bool → List Column
part_if heading told false = []
part_if heading told true = (heading, told, false) ∷ []

-- the columns by tables that options ask for, in their order
abbrev pub tables_for : Further → List Column
tables_for f =
    column_if f.name.now Prefix f.prefixes ++
    (column_if (codes "time_zone") TimeZones f.time_zones ++
    (column_if (codes "carrier") (Carrier owner.Today) f.carriers ++
    (column_if (codes "first_carrier") (Carrier owner.First) f.first_carriers ++
    column_if (codes "area") Area f.areas)))

-- those of parts of the number, and what is suspicious
abbrev pub parts_for : Further → List Column
parts_for f =
    part_if (codes "extension") (Part Extension) f.extension ++
    (part_if (codes "calling_code") (Part CallingCode) f.calling_code ++
    (part_if (codes "national_number") (Part NationalNumber) f.national_number ++
    (part_if (codes "possibility") (Part Possibility) f.possibility ++
    (part_if (codes "area_code") (Part AreaCode) f.area_code ++
    part_if (codes "suspicion") Doubts f.suspicion))))

-- those of one of the two numbers in a field that has two: its E.164 text, type and region, under
-- these names
abbrev pub number_for : Which → (e164 kind region : List ℕ) → Bool → List Column
number_for which e164 kind region is_asked =
    part_if e164 (Split which E164) is_asked ++
    (part_if kind (Split which Kind) is_asked ++ part_if region (Split which Region) is_asked)

-- those of the first one, and then those of the second
abbrev pub split_for : Further → List Column
split_for f =
    number_for First (codes "e164_1") (codes "type_1") (codes "region_1") f.split ++
    number_for Second (codes "e164_2") (codes "type_2") (codes "region_2") f.split

-- the columns that options ask for, in their order
abbrev pub columns_for : Further → List Column
columns_for f = tables_for f ++ (parts_for f ++ split_for f)

-- those that are wanted
abbrev pub wanted : List Wanted → List Column
wanted columns = map (λ (c : Wanted). (c.heading.now, c.told, is_some c.file)) columns

-- those that are loaded
abbrev pub loaded : List LoadedColumn → List Column
loaded columns = map (λ (c : LoadedColumn). (c.heading.now, c.told, is_some c.table)) columns

-- a column, and the locale in which it is told
abbrev pub Spoken : Type 0
Spoken = List ℕ × Told × Bool × List ℕ

-- columns that are told in a locale
abbrev pub spoken : List ℕ → List Column → List Spoken
spoken locale columns = map (λ (c : Column). (c.0, c.1, c.2, locale)) columns

-- the locale of the language that options name; English where they name none
abbrev pub locale_for : Further → List ℕ
locale_for f = normalized (unwrap_or (text_in f.language) (codes "en"))

-- the columns that options ask for, in that locale
abbrev pub told_for : Further → List Spoken
told_for f = spoken (locale_for f) (columns_for f)

-- the file of a locale's table, in a part of the folder of the tables by language
abbrev pub table_file : (folder part locale : List ℕ) → List ℕ
table_file folder part locale =
    folder ++ 47 ∷ (part ++ 47 ∷ (text_file locale ++ codes ".tsv"))

-- those that are asked of a table, or of objects
abbrev pub asked : List Extra → List Spoken
asked columns = map (λ (c : Extra). (c.heading.now, c.told, is_some c.table, c.locale.now)) columns

-- columns that are told of lines
abbrev pub Extras : Type 0
Extras = List Extra
