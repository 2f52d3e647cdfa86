-- What each command answers to its inputs, one after the other.
use Rattle.std.specs.Prelude.{◌≡◌, ℕ, ⊤, List, [], Option, Result}
use Rattle.phone_commands.specs.Columns.{Extras}
use Rattle.phone_commands.specs.FoundLines.{IsFoundLine, in_front, name_told}
use Rattle.phone_commands.specs.Inputs.{InputsEnd, IsAnswered, IsStandard, Name}
use Rattle.phone_commands.specs.Jobs.{Acts, TakesLines}
use Rattle.phone_commands.specs.ObjectLines.{IsObjectLine, after_one}
use Rattle.phone_commands.specs.ShortLines.{IsShortLine}
use Rattle.phone_commands.specs.TableJobs.{AnswersTable}
use Rattle.phone_commands.specs.TypedLines.{typed_line}
use Rattle.phone_commands.specs.WithInputs.{IsWithInput}
use Rattle.phone_commands.specs.WrittenLines.{IsWrittenLine}
use Rattle.phone_commands.specs.declared.finder.FoundForm.{FoundForm}
use Rattle.phone_commands.specs.declared.finder.FoundForm.TheVariants as form
use Rattle.phone_commands.specs.declared.finder.Matching.{Matching}
use Rattle.phone_commands.specs.declared.inputs.Failure.{Failure}
use Rattle.phone_commands.specs.declared.jobs.JobError.{JobError}
use Rattle.phone_commands.specs.declared.takers.FirstLines.{FirstLines}
use Rattle.phone_engine.specs.ReportLines.{IsReportLine}
use Rattle.phone_lines.specs.Ends.{Devices}
use Rattle.phone_lines.specs.Taken.{Begins, Gives, begins_with_nothing, each_by_itself}
use Rattle.phone_matches.specs.declared.leniency.Leniency.{Leniency}
use Rattle.phone_matches.specs.declared.leniency.Leniency.TheVariants as leniency
use Rattle.phone_records.specs.declared.loader.Metadata.{Metadata}
use Rattle.phone_table.specs.declared.run.Asked.{Asked}
use Rattle.phone_table.specs.declared.summed.Totals.{Totals}
use Rattle.phone_values.specs.declared.country.Id.{Id}
use Rattle.phone_values.specs.declared.rules.Rules.{Rules}
use Rattle.phone_words.specs.declared.command.Command.{Command}
use Rattle.phone_words.specs.declared.command.Command.TheVariants as command
use Rattle.phone_words.specs.declared.values.Form.{Form}
use Rattle.phone_words.specs.declared.values.Level.{Level}
use Rattle.phone_words.specs.declared.values.Level.TheVariants as level

-- inputs are answered so, where `acts` tells how one is: standard input where no file is named,
-- else the files, one after the other, until one fails
pub data AnswersInputs {Kept : Type 0}
    (acts : Kept → Devices → Devices → Kept → Result ⊤ JobError → Type 0) (files : List Name)
    (first : Kept) (before after : Devices) (last : Kept) (end : Result ⊤ Failure) : Type 0 where
  standard : (name : Name) → files ≡ [] → IsStandard name →
      IsAnswered acts name first before after last end →
      AnswersInputs acts files first before after last end
  named : ¬ (files ≡ []) → InputsEnd acts files first before after last end →
      AnswersInputs acts files first before after last end

-- the report: each line by itself
abbrev pub Reports : Rules → List Metadata → Option Id → Acts ⊤
Reports rules db hint =
    TakesLines begins_with_nothing (each_by_itself (λ _. IsReportLine rules db hint))

-- `--with-input`: the same, each with the line
abbrev pub GivesWithInput : Rules → List Metadata → Option Id → Gives ⊤
GivesWithInput rules db hint = each_by_itself (λ _. IsWithInput rules db hint)

-- `--format`: each line's number in a format, by itself
abbrev pub GivesWritten : Rules → List Metadata → Option Id → Form → Gives ⊤
GivesWritten rules db hint form = each_by_itself (λ _. IsWrittenLine rules db hint form)

-- `--json`: the object of each line, in which is what columns tell; what is kept is the number of
-- the next line
abbrev pub GivesObjects : Rules → List Metadata → Option (List Metadata) → Extras → Option Id →
    Gives ℕ
GivesObjects rules db short extra hint place line answer after =
    IsObjectLine rules db short extra hint place line answer × (after ≡ after_one place)

-- what `--find` keeps: the number of the next line, and how many inputs were begun
pub record Finding : Type 0 where
  pub place : ℕ
  pub begun : ℕ

-- `--find` counts lines anew in each input, from the first one's number; of records the header
-- stands in front of the first input's
abbrev pub BeginsFound : FoundForm → List Name → (first : ℕ) → Begins Finding
BeginsFound form names first f head after =
    (head ≡ in_front form f.begun (name_told names (after_one f.begun))) ×
    (after ≡ record { place = first; begun = after_one f.begun })

-- the leniency of a level
abbrev pub leniency_of : Level → Leniency
leniency_of level.Possible = leniency.Possible
leniency_of level.Valid = leniency.Valid
leniency_of level.StrictGrouping = leniency.StrictGrouping
leniency_of level.ExactGrouping = leniency.ExactGrouping

-- `--find`: what is told of the numbers that are found in each line, perhaps by libphonenumber's
-- matcher
abbrev pub GivesFound : Rules → List Metadata → Option Id → Option Matching → FoundForm →
    List Name → Gives Finding
GivesFound rules db hint m form names f line answer after =
    IsFoundLine rules db hint m form (name_told names f.begun) f.place line answer ×
    (after ≡ record f { place = after_one f.place })

-- `--typed`: what a field that is empty first shows after each character of a line
abbrev pub GivesTyped : List Metadata → Option Id → Gives ⊤
GivesTyped db hint kept line answer kept' =
    answer ≡ typed_line record { database = db; hint = hint; keys = [] } line

-- `--short`: the six answers on each line
abbrev pub GivesShorts : List Metadata → Id → Gives ⊤
GivesShorts db region = each_by_itself (λ _. IsShortLine db region)

-- what `--unique` keeps first: no number
abbrev pub no_first_lines : List Metadata → Rules → Option Id → FirstLines
no_first_lines db rules hint = record {
  book = record { database = db; rules = rules; entries = [] };
  hint = hint;
  added = 0;
  present = 0;
  refused = 0;
}

-- a table: each by itself; what is kept are the counts and the summary of the last one
abbrev pub Tables : Rules → List Metadata → Option Id → Asked → Acts Totals
Tables rules db hint asked kept before after totals end =
    AnswersTable rules db hint asked before after totals end

-- how a command tells the numbers that it finds
abbrev pub found_form : Command → FoundForm
found_form command.FoundObjects = form.Object
found_form command.FoundRecords = form.Record
found_form other = form.Fields
