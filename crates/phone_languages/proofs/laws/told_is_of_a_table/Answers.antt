use Rattle.phone_languages.proofs.OfTables.{told_from}
use Rattle.phone_languages.proofs.laws.told_is_of_a_table.Goals as goal

pub returns : goal.returns
returns c locale own english digits text told some = told_from locale own english digits text told some
