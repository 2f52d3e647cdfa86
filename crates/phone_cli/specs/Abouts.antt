-- What the program tells of itself.
use Rattle.std.specs.Prelude.{◌≡◌, ℕ, ◌+◌, List, [], ◌∷◌, ◌++◌, Option, None, Some, codes, flat_map}
use Rattle.phone_device.specs.Passing.{Takes, TakesFront}
use Rattle.phone_lines.specs.Ends.{Devices}
use Rattle.phone_values.specs.Ids.{name}
use Rattle.phone_values.specs.declared.country.Id.{Id}
use Rattle.phone_values.specs.declared.rules.Rules.{Rules}
use Rattle.phone_values.specs.declared.rules.Rules.TheVariants.{Crate, Library}
use Rattle.phone_words.specs.Rows.{Lent}
use Rattle.phone_cli.specs.declared.names.TheConstants.{REGIONS}

-- the line of a region: its id, a tab and its English name
abbrev pub region_line : Id → List ℕ → List ℕ
region_line id english = name id ++ (9 ∷ (english ++ 10 ∷ []))

-- the lines of regions, one after the other
abbrev pub region_lines : List (Id × Lent) → List ℕ
region_lines regions = flat_map (λ (r : Id × Lent). region_line r.0 r.1.now) regions

-- the answer to `--regions`: the line of each region
unfoldable pub regions_text : List ℕ
regions_text = flat_map (λ r. region_line r.0 r.1.now) REGIONS

-- which program this is
abbrev pub name_line : List ℕ
name_line = codes "phonenumber, a port of the Rust crate phonenumber 0.3.10 to Rattle\n"

-- by whose rules numbers are read
abbrev pub rules_line : Rules → List ℕ
rules_line Library = codes "rules: those of libphonenumber (--rules library)\n"
rules_line Crate = codes "rules: those of the Rust crate phonenumber (--rules crate)\n"

-- what is told of the version of the table: nothing where it isn't known
abbrev pub table_line : Option (List ℕ) → List ℕ
table_line None = []
table_line (Some version) = codes "table of the world: " ++ version

-- the answer to `--version`: which program this is, by whose rules it reads, and the version of the
-- table, where that is known
abbrev pub version_text : Rules → Option (List ℕ) → List ℕ
version_text rules version = name_line ++ (rules_line rules ++ table_line version)

-- the source was not read
pub record IsUnread (before after : Devices) : Type 0 where
  pub to_come : after.to_come ≡ before.to_come
  pub faults : after.source_faults ≡ before.source_faults

-- a text was written whole and handed on, and the sink didn't fail
pub record IsWritten (text : List ℕ) (before after : Devices) : Type 0 where
  pub unread : IsUnread before after
  pub taken : Takes before.taken text after.taken
  pub handed_on : after.unflushed ≡ 0
  pub no_fault : after.sink_faults ≡ before.sink_faults

-- the sink failed once, and took a beginning of a text
pub record IsBrokenOff (text : List ℕ) (before after : Devices) : Type 0 where
  pub unread : IsUnread before after
  pub taken : TakesFront before.taken text after.taken
  pub fault : after.sink_faults ≡ before.sink_faults + 1

-- a text that the program tells of itself, and the status: 0 where it was written
pub data Tells (text : List ℕ) (before after : Devices) : ℕ → Type 0 where
  whole : IsWritten text before after → Tells text before after 0
  broken_off : IsBrokenOff text before after → Tells text before after 1
