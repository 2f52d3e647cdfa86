use Rattle.std.proofs.Common.{Option, None, Some, refl}
use Rattle.std.specs.Option.{option_copied}
use Rattle.std.specs.Prelude.{List, option_and_then}
use Rattle.phone_cli.specs.Answers.{IsLoaded}
use Rattle.phone_cli.specs.Operands.{alternates_at}
use Rattle.phone_records.specs.declared.loader.Metadata.{Metadata}
use Rattle.phone_words.specs.Rows.{Lent}
use Rattle.phone_words.specs.declared.values.Level.{Level}
use Rattle.phone_cli.proofs.made.finder_of.Goals as goal

-- what is read for a level is read where there is a level
loaded_by : (level : Option Level) (file : Option Lent) (read : Option (List Metadata)) →
    IsLoaded (alternates_at level file) read →
    IsLoaded (alternates_at level file) (option_and_then (λ _. read) level)
loaded_by None file read h = refl
loaded_by (Some level) file read h = h

pub returns-clause-matching : goal.returns-clause-matching
returns-clause-matching c = record {
  leniency = c.matching_of.ensures.leniency;
  loaded = rw c.matching_of.ensures.alternates
      (loaded_by c.args.reading.call.now.level c.args.reading.call.now.alternates
      (option_copied c.args.alternates) c.requires);
}
