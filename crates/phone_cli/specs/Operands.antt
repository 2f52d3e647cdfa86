-- The region and the files that a call names.
use Rattle.std.specs.Prelude.{ℕ, Bool, false, true, List, [], ◌∷◌, ◌++◌, Option, None, Some, codes}
use Rattle.std.specs.Prelude.{◌&&◌, ◌≡◌, ◌==◌, if◌then◌else◌, IfSome, length, map, not}
use Rattle.std.specs.List.{filter_map, list_any}
use Rattle.std.specs.Option.{option_map_or}
use Rattle.std.specs.Str.{bytes_eq}
use Rattle.phone_places.specs.Ids.{id_in}
use Rattle.phone_values.specs.declared.country.Id.{Id}
use Rattle.phone_values.specs.declared.rules.Rules.{Rules}
use Rattle.phone_values.specs.declared.rules.Rules.TheVariants.{Library}
use Rattle.phone_words.specs.Calls.{further_files}
use Rattle.phone_words.specs.Rows.{Lent, text_in}
use Rattle.phone_words.specs.declared.call.Call.{Call}
use Rattle.phone_words.specs.declared.command.Command.{Command}
use Rattle.phone_words.specs.declared.command.Command.TheVariants as command
use Rattle.phone_words.specs.declared.values.Level.{Level}
use Rattle.phone_words.specs.declared.values.Level.TheVariants as level

-- the region and the files that operands name: the first one is a region's id, in capital or small
-- letters, or a file
abbrev pub region_and_files : List Lent → Option Id × List Lent
region_and_files [] = (None, [])
region_and_files (first ∷ rest) =
    option_map_or (λ id. (Some id, rest)) (id_in first.now) (None, first ∷ rest)

-- the region that a call names
abbrev pub region_of : Call → Option Id
region_of c = (region_and_files c.operands.items).0

-- the files that a call names
abbrev pub files_of : Call → List Lent
files_of c = (region_and_files c.operands.items).1

-- two files are named, or more
abbrev pub are_several : List Lent → Bool
are_several [] = false
are_several (file ∷ []) = false
are_several (file ∷ other ∷ files) = true

-- no region is named
abbrev pub is_none : Option Id → Bool
is_none None = true
is_none (Some id) = false

-- a command doesn't go with the region and the files that are named: a table, and objects of found
-- numbers, are of one input; a short number is dialled in a region
abbrev pub is_misfit : Command → Option Id → List Lent → Bool
is_misfit command.Table hint files = are_several files
is_misfit command.FoundObjects hint files = are_several files
is_misfit command.Short hint files = is_none hint
is_misfit other hint files = false

-- the file of the database that a command reads by: for short numbers theirs
abbrev pub database_by : Call → Command → Option Lent
database_by c command.Short = c.short_database
database_by c other = c.database

-- the file of the database that a call reads by
abbrev pub database_of : Call → Option Lent
database_of c = database_by c c.command

-- the file of the database that tells which numbers of a command are short numbers: for objects and
-- tables, by libphonenumber's rules
abbrev pub shorts_by : Call → Rules → Command → Option Lent
shorts_by c Library command.Objects = c.short_database
shorts_by c Library command.Table = c.short_database
shorts_by c rules other = None

-- the file of the database that tells which numbers of a call are short numbers
abbrev pub shorts_of : Call → Option Lent
shorts_of c = shorts_by c c.rules c.command

-- the file of the database of other formats that is read at a level: at those that ask for groups
abbrev pub alternates_at : Option Level → Option Lent → Option Lent
alternates_at (Some level.StrictGrouping) file = file
alternates_at (Some level.ExactGrouping) file = file
alternates_at other file = None

-- the file of the database of other formats by which a call finds numbers
abbrev pub alternates_of : Call → Option Lent
alternates_of c = alternates_at c.level c.alternates

-- a command reads numbers by an engine: neither as short numbers, nor to keep first lines
abbrev pub has_reader : Command → Bool
has_reader command.Help = false
has_reader command.Version = false
has_reader command.Regions = false
has_reader command.Unique = false
has_reader command.Short = false
has_reader other = true

-- a command tells of the program or its table alone, whatever else is named
abbrev pub tells_alone : Command → Bool
tells_alone command.Version = true
tells_alone command.Regions = true
tells_alone other = false

-- operands are named that a call has no use for
abbrev pub ignores_words : Call → Bool
ignores_words c = tells_alone c.command && not (length c.operands.items == 0)

-- the name under which the system has standard input
abbrev pub standard_input : List ℕ
standard_input = codes "/dev/stdin"

-- the name of the file that an input is: of standard input the system's
abbrev pub input_name : Lent → List ℕ
input_name name = if bytes_eq name.now (codes "-") then standard_input else name.now

-- the names of the files that the inputs are: standard input where no file is named
abbrev pub input_names : List Lent → List (List ℕ)
input_names [] = standard_input ∷ []
input_names (file ∷ files) = map input_name (file ∷ files)

-- the names of some files that are there
abbrev pub named_files : List (Option Lent) → List (List ℕ)
named_files files = filter_map text_in files

-- the names of the files that a call with a table reads or writes, but for the summary's
abbrev pub names_taken : Call → (files : List Lent) → List (List ℕ)
names_taken c files = input_names files ++
    (named_files (c.database ∷ c.short_database ∷ c.alternates ∷ c.table.countries ∷ c.output ∷
    []) ++
    named_files (further_files c.table.further))

-- the file of the summary is none of these by its name
abbrev pub IsApart : Call → (files : List Lent) → Type 0
IsApart c files = IfSome c.table.summary
    (λ name. list_any (bytes_eq name.now) (names_taken c files) ≡ false)

-- the names of the files that a call reads: inputs, the database, that of short numbers, that of
-- other formats, the table of the names of regions, tables of prefixes
abbrev pub names_read : Call → (database : Lent) → (files : List Lent) → List (List ℕ)
names_read c database files = input_names files ++
    (named_files (Some database ∷ c.short_database ∷ c.alternates ∷ c.table.countries ∷ []) ++
    named_files (further_files c.table.further))
