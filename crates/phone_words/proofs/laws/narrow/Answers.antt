use Rattle.std.proofs.Common.{refl}
use Rattle.phone_words.specs.Help.{help_text}
use Rattle.phone_words.specs.Rows.{first_rows, more_rows}
use Rattle.phone_words.proofs.laws.narrow.Goals as goal

pub returns : goal.returns
unfolding help_text first_rows more_rows
returns c = refl
