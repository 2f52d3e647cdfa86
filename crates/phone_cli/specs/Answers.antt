-- What a call does.
use Rattle.std.specs.Prelude.{◌≡◌, ◌||◌, ℕ, ⊤, Bool, false, true, List, ◌++◌, codes}
use Rattle.std.specs.Prelude.{IsSome, Option, None, Some, Result, is_some, option_and_then}
use Rattle.std.specs.Prelude.{option_map, slice_get}
use Rattle.std.specs.List.{list_any}
use Rattle.std.specs.Option.{option_copied}
use Rattle.std.specs.Str.{bytes_eq}
use Rattle.phone_commands.specs.Columns as columns
use Rattle.phone_commands.specs.EncodedJobs.{ActsIn}
use Rattle.phone_commands.specs.FirstLines.{IsFirstLine}
use Rattle.phone_commands.specs.Inputs.{IsStandard, Name}
use Rattle.phone_commands.specs.Jobs.{TakesLines}
use Rattle.phone_commands.specs.ObjectLines.{after_one}
use Rattle.phone_commands.specs.Strays.{CountsBegin, CountsLine, no_tally, strays_of}
use Rattle.phone_commands.specs.declared.finder.Matching.{Matching}
use Rattle.phone_commands.specs.declared.inputs.Failure.{Failure}
use Rattle.phone_commands.specs.declared.strays.Strays.{Strays}
use Rattle.phone_commands.specs.declared.strays.Tally.{Tally}
use Rattle.phone_commands.specs.declared.takers.FirstLines.{FirstLines}
use Rattle.phone_lines.specs.Ends.{Devices}
use Rattle.phone_lines.specs.Taken.{begins_with_nothing}
use Rattle.phone_plans.specs.CodeLookUps.{is_prefix_free}
use Rattle.phone_records.specs.declared.loader.Metadata.{Metadata}
use Rattle.phone_table.specs.declared.run.Asked.{Asked}
use Rattle.phone_table.specs.declared.summed.Totals.{Totals}
use Rattle.phone_values.specs.declared.country.Id.{Id}
use Rattle.phone_words.specs.Help.{help_text}
use Rattle.phone_words.specs.Rows.{Lent}
use Rattle.phone_words.specs.declared.call.Call.{Call}
use Rattle.phone_words.specs.declared.command.Command.{Command}
use Rattle.phone_words.specs.declared.command.Command.TheVariants as command
use Rattle.phone_words.specs.declared.table.Table.{Table}
use Rattle.phone_words.specs.declared.values.Form.{Form}
use Rattle.phone_cli.specs.Abouts.{Tells, regions_text, version_text}
use Rattle.phone_cli.specs.Commands.{AnswersInputs, BeginsFound, Finding, Tables}
use Rattle.phone_cli.specs.Commands.{GivesFound, GivesObjects, GivesShorts, GivesTyped}
use Rattle.phone_cli.specs.Commands.{GivesWithInput, GivesWritten, Reports}
use Rattle.phone_cli.specs.Commands.{found_form, leniency_of, no_first_lines}
use Rattle.phone_cli.specs.Operands.{IsApart, alternates_of, database_of, files_of}
use Rattle.phone_cli.specs.Operands.{ignores_words, is_misfit}
use Rattle.phone_cli.specs.Operands.{names_read}
use Rattle.phone_cli.specs.Operands.{region_of, shorts_of}
use Rattle.phone_cli.specs.Statuses.{status_of}
use Rattle.phone_cli.specs.Streams.{IsSinkKept, Refuses, RefusesBySome, Says, Streams}
use Rattle.phone_cli.specs.Streams.{into_file, streams}

-- the database of short numbers is there where a file of it is named, and only there
abbrev pub IsLoaded : Option Lent → Option (List Metadata) → Type 0
IsLoaded None short = short ≡ None
IsLoaded (Some path) short = IsSome short

-- this is asked of a table by the options for it, with this database of short numbers; of the files
-- of its further columns no contract tells what they hold
pub record IsAsked (t : Table) (shorts : Option (List Metadata)) (a : Asked) : Type 0 where
  pub number : a.number ≡ t.column
  pub region : a.region ≡ t.region_column
  pub countries : is_some a.countries ≡ is_some t.countries
  pub delimiter : a.delimiter ≡ t.delimiter
  pub else_hint : a.else_hint ≡ t.fallback_region
  pub mark_bad : a.mark_bad ≡ t.mark_bad
  pub is_unique : a.is_unique ≡ t.is_unique
  pub tells_duplicates : a.tells_duplicates ≡ t.duplicates
  pub front : a.front ≡ t.front
  pub further : columns.asked a.extra.now ≡ columns.told_for t.further
  pub short : option_map (λ d. d.now) a.short ≡ shorts
  pub is_summed : a.is_summed ≡ (is_some t.summary || t.further.suspicion)

-- a command finds the numbers in a text
abbrev pub finds : Command → Bool
finds command.Find = true
finds command.FoundObjects = true
finds command.FoundRecords = true
finds other = false

-- libphonenumber's matcher finds the numbers of a call so, where it names a level: as strictly as
-- that says, and by a database of other formats where one is to be read
pub record IsMatching (c : Call) (m : Option Matching) : Type 0 where
  pub leniency : option_map (λ (m : Matching). m.leniency) m ≡ option_map leniency_of c.level
  pub loaded : IsLoaded (alternates_of c)
      (option_and_then (λ (m : Matching). option_copied m.alternates) m)

-- what was written is the answer of a call to its input as a table, which has these totals, read in
-- its encoding, over some databases, by what its options ask for; or, where that failed, its front
pub record IsTableRun (c : Call) (hint : Option Id) (files : List Name) (before after : Devices)
    (last : Totals) (end : Result ⊤ Failure) : Type 0 where
  pub db : List Metadata
  pub short : Option (List Metadata)
  pub asked : Asked
  pub first : Totals
  pub is : c.command ≡ command.Table
  pub apart : IsApart c files
  pub loaded : IsLoaded (shorts_of c) short
  pub by_options : IsAsked c.table short asked
  pub answered : AnswersInputs (ActsIn c.encoding (Tables c.rules db hint asked)) files first
      before after last end

-- what was written is the answer of a call's command to its inputs, read in its encoding, under
-- the region, over some database; or, where that failed, a beginning of it
pub data Runs (c : Call) (hint : Option Id) (files : List Name) (before after : Devices)
    (end : Result ⊤ Failure) : Type 0 where
  report : (db : List Metadata) → c.command ≡ command.Report →
      AnswersInputs (ActsIn c.encoding (Reports c.rules db hint)) files tt before after tt end →
      Runs c hint files before after end
  with_input : (db : List Metadata) → c.command ≡ command.ReportWithInput →
      AnswersInputs (ActsIn c.encoding
      (TakesLines begins_with_nothing (GivesWithInput c.rules db hint))) files tt
      before after tt end → Runs c hint files before after end
  written : (db : List Metadata) → (form : Form) → c.command ≡ command.Written form →
      AnswersInputs (ActsIn c.encoding
      (TakesLines begins_with_nothing (GivesWritten c.rules db hint form))) files tt
      before after tt end → Runs c hint files before after end
  objects : (db : List Metadata) → (short : Option (List Metadata)) →
      (extra : columns.Extras) → (last : ℕ) →
      c.command ≡ command.Objects → IsLoaded (shorts_of c) short →
      columns.asked extra ≡ columns.told_for c.table.further →
      AnswersInputs (ActsIn c.encoding
      (TakesLines begins_with_nothing (GivesObjects c.rules db short extra hint))) files
      (after_one c.skipped) before after last end →
      Runs c hint files before after end
  found : (db : List Metadata) → (m : Option Matching) → (last : Finding) →
      finds c.command ≡ true → IsMatching c m →
      AnswersInputs (ActsIn c.encoding (TakesLines
      (BeginsFound (found_form c.command) files (after_one c.skipped))
      (GivesFound c.rules db hint m (found_form c.command) files))) files
      (record { place = after_one c.skipped; begun = 0 }) before after last end →
      Runs c hint files before after end
  typed : (db : List Metadata) → c.command ≡ command.Typed →
      AnswersInputs (ActsIn c.encoding (TakesLines begins_with_nothing (GivesTyped db hint)))
      files tt before after tt end → Runs c hint files before after end
  short : (db : List Metadata) → (region : Id) → c.command ≡ command.Short →
      hint ≡ Some region →
      AnswersInputs (ActsIn c.encoding (TakesLines begins_with_nothing (GivesShorts db region)))
      files tt before after tt end → Runs c hint files before after end
  firsts : (db : List Metadata) → (last : FirstLines) → c.command ≡ command.Unique →
      is_prefix_free db ≡ true →
      AnswersInputs (ActsIn c.encoding (TakesLines begins_with_nothing IsFirstLine)) files
      (no_first_lines db c.rules hint) before after last end →
      Runs c hint files before after end
  table : (last : Totals) → IsTableRun c hint files before after last end →
      Runs c hint files before after end

-- a command reads a table
abbrev pub is_table : Command → Bool
is_table command.Table = true
is_table other = false

-- the lines of the inputs of a call that aren't UTF-8; of a table the records
pub data Meets (c : Call) (hint : Option Id) (files : List Name) (before after : Devices)
    (end : Result ⊤ Failure) : Strays → Type 0 where
  of_lines : (t : Tally) → is_table c.command ≡ false →
      AnswersInputs (ActsIn c.encoding (TakesLines CountsBegin CountsLine)) files
      (no_tally c.skipped) before after t end → Meets c hint files before after end t.strays
  of_table : (last : Totals) → IsTableRun c hint files before after last end →
      Meets c hint files before after end (strays_of last.counts)

-- a command tells further columns: of a table, or in objects
abbrev pub tells_further : Command → Bool
tells_further command.Objects = true
tells_further command.Table = true
tells_further other = false

-- what a call does once it reads and writes, and its status: a database or a table of prefixes is
-- refused; the file of a summary is read or written as well; there is no memory for further
-- columns; it answers its inputs; or it answers them whole, and a summary can't be written
pub data Does (c : Call) (hint : Option Id) (files : List Name) (before after : Streams) :
    ℕ → Type 0 where
  refused : RefusesBySome before after → Does c hint files before after 3
  taken : c.command ≡ command.Table → is_some c.table.summary ≡ true →
      RefusesBySome before after → Does c hint files before after 2
  no_memory : tells_further c.command ≡ true → Refuses (codes "out of memory") before after →
      Does c hint files before after 1
  ran : (end : Result ⊤ Failure) → (strays : Strays) →
      Runs c hint files before.devices after.devices end →
      Meets c hint files before.devices after.devices end strays →
      Does c hint files before after (status_of c.lenient strays end)
  unsummed : (end : Result ⊤ Failure) → (last : Totals) →
      IsTableRun c hint files before.devices after.devices last end →
      status_of c.lenient (strays_of last.counts) end ≡ 0 → is_some c.table.summary ≡ true →
      Does c hint files before after 1

-- a call reads numbers
abbrev pub reads : Command → Bool
reads command.Help = false
reads command.Version = false
reads command.Regions = false
reads other = true

-- what a call that reads numbers does, and its status: a file isn't there; the command doesn't go
-- with region and files; no database is named; the file that is to be written is read, or can't be
-- written; or it reads, and writes to the output or to a file that isn't named as one that is read;
-- or then that file can't take its place
pub data AnswersReading (c : Call) (hint : Option Id) (files : List Name)
    (before after : Streams) : ℕ → Type 0 where
  no_file : (name : Name) → (at : ℕ) → slice_get files at ≡ Some name → ¬ (IsStandard name) →
      RefusesBySome before after → AnswersReading c hint files before after 2
  misfit : is_misfit c.command hint files ≡ true → RefusesBySome before after →
      AnswersReading c hint files before after 2
  no_database : database_of c ≡ None → RefusesBySome before after →
      AnswersReading c hint files before after 2
  is_read : (name : Name) → c.output ≡ Some name →
      Refuses (name.now ++ codes " is read, so it can't be written") before after →
      AnswersReading c hint files before after 2
  unwritten : (name : Name) → c.output ≡ Some name →
      Refuses (name.now ++ codes " can't be written") before after →
      AnswersReading c hint files before after 1
  to_output : (status : ℕ) → (database : Name) → is_misfit c.command hint files ≡ false →
      database_of c ≡ Some database → c.output ≡ None →
      Does c hint files before after status → AnswersReading c hint files before after status
  to_file : (status : ℕ) → (database name : Name) → (faults unflushed : ℕ) →
      is_misfit c.command hint files ≡ false → database_of c ≡ Some database →
      c.output ≡ Some name →
      list_any (bytes_eq name.now) (names_read c database files) ≡ false →
      IsSinkKept before.devices after.devices →
      Does c hint files (record before { devices = into_file before.devices 0 0 })
      (record after { devices = into_file after.devices faults unflushed }) status →
      AnswersReading c hint files before after status
  unplaced : (database name : Name) → (told : Option (List ℕ)) →
      (faults unflushed told_faults : ℕ) → is_misfit c.command hint files ≡ false →
      database_of c ≡ Some database → c.output ≡ Some name →
      list_any (bytes_eq name.now) (names_read c database files) ≡ false →
      IsSinkKept before.devices after.devices →
      Does c hint files (record before { devices = into_file before.devices 0 0 })
      (streams (into_file after.devices faults unflushed) told told_faults) 0 →
      Says (name.now ++ codes " can't be written")
      (streams after.devices told told_faults) after →
      AnswersReading c hint files before after 1

-- what a call does, and its status: it tells of itself, unless words stand behind that it would
-- ignore; or it reads numbers under the region and from the files that it names
pub data Answers (c : Call) (before after : Streams) : ℕ → Type 0 where
  help : (status : ℕ) → c.command ≡ command.Help →
      Tells help_text before.devices after.devices status → Answers c before after status
  no_help : c.command ≡ command.Help → Refuses (codes "out of memory") before after →
      Answers c before after 1
  ignored : ignores_words c ≡ true → RefusesBySome before after → Answers c before after 2
  version : (status : ℕ) → (version : Option (List ℕ)) → c.command ≡ command.Version →
      ignores_words c ≡ false →
      (c.database ≡ None → version ≡ None) →
      Tells (version_text c.rules version) before.devices after.devices status →
      Answers c before after status
  regions : (status : ℕ) → c.command ≡ command.Regions → ignores_words c ≡ false →
      Tells regions_text before.devices after.devices status → Answers c before after status
  reading : (status : ℕ) → reads c.command ≡ true →
      AnswersReading c (region_of c) (files_of c) before after status →
      Answers c before after status
