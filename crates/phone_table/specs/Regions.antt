-- The region under which a record is read.
use Rattle.std.specs.Prelude.{◌≡◌, ℕ, ◌==◌, Bool, List, [], length, unwrap_or}
use Rattle.std.specs.Prelude.{if◌then◌else◌, Option, Some, None}
use Rattle.std.specs.Str.{IsUtf8, trim}
use Rattle.csv.specs.Records.{field_at}
use Rattle.phone_places.specs.Ids.{id_in}
use Rattle.phone_places.specs.Names.{region_named}
use Rattle.phone_places.specs.declared.countries.Entry.{Entry}
use Rattle.phone_records.specs.declared.loader.Metadata.{Metadata}
use Rattle.phone_values.specs.declared.country.Id.{Id}
use Rattle.phone_csv.specs.Formats.{Record}
use Rattle.phone_table.specs.declared.region.Named.{Named}
use Rattle.phone_table.specs.declared.region.Named.TheVariants.{Nothing, Region, Unknown}

-- the field of a record in a column; empty where it has none
abbrev pub field_in : Record → ℕ → List ℕ
field_in fields column = unwrap_or (field_at fields column) []

-- the region that a text names: by its id alone, where there is no table of names
abbrev pub region_meant : Option (List Entry) → List Metadata → List ℕ → Option Id
region_meant None db text = id_in text
region_meant (Some names) db text = region_named names db text

-- an id is named, or none that there is
abbrev pub region_or_none : Option Id → Named
region_or_none (Some id) = Region id
region_or_none None = Unknown

-- what a text names as a region: an empty one nothing, and what is no text none that there is
abbrev pub named_by : Option (List Entry) → List Metadata → Option (List ℕ) → Named
named_by names db None = Unknown
named_by names db (Some text) =
    if length text == 0 then Nothing else region_or_none (region_meant names db text)

-- the text of a field, white space around it passed over; none where its bytes aren't UTF-8
abbrev pub TextOf : List ℕ → Option (List ℕ) → Type 0
TextOf field None = ¬ (IsUtf8 field)
TextOf field (Some text) = IsUtf8 field × (text ≡ trim field)

-- the text by which a record names its region: an empty one where there is no column of regions
abbrev pub RegionText : Record → Option ℕ → Option (List ℕ) → Type 0
RegionText fields None text = text ≡ Some []
RegionText fields (Some column) text = TextOf (field_in fields column) text

-- what a record names as its region, by a table of names where there is one
abbrev pub RecordNames : Option (List Entry) → List Metadata → Option ℕ → Record → Named → Type 0
RecordNames names db column fields region = (text : Option (List ℕ)) ×
    RegionText fields column text × (region ≡ named_by names db text)

-- the hint under which a record is read that names this region: its own, else that of the table;
-- none where it names no region that there is, unless that takes the table's hint too
abbrev pub hint_under : Bool → Option Id → Named → Option (Option Id)
hint_under else_hint hint Nothing = Some hint
hint_under else_hint hint (Region id) = Some (Some id)
hint_under else_hint hint Unknown = if else_hint then Some hint else None
