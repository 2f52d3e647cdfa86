use Rattle.std.proofs.Common.{refl}
use Rattle.phone_words.specs.Rows.{first_rows, more_rows}
use Rattle.phone_words.proofs.laws.examples.Goals as goal

pub returns-clause-report : goal.returns-clause-report
unfolding first_rows more_rows
returns-clause-report c = refl

pub returns-clause-output : goal.returns-clause-output
unfolding first_rows more_rows
returns-clause-output c = refl

pub returns-clause-delimiter : goal.returns-clause-delimiter
unfolding first_rows more_rows
returns-clause-delimiter c = refl

pub returns-clause-joined : goal.returns-clause-joined
unfolding first_rows more_rows
returns-clause-joined c = refl

pub returns-clause-table : goal.returns-clause-table
unfolding first_rows more_rows
returns-clause-table c = refl

pub returns-clause-found : goal.returns-clause-found
unfolding first_rows more_rows
returns-clause-found c = refl

pub returns-clause-skipped : goal.returns-clause-skipped
unfolding first_rows more_rows
returns-clause-skipped c = refl

pub returns-clause-later : goal.returns-clause-later
unfolding first_rows more_rows
returns-clause-later c = refl

pub returns-clause-help : goal.returns-clause-help
unfolding first_rows more_rows
returns-clause-help c = refl

pub returns-clause-marked : goal.returns-clause-marked
unfolding first_rows more_rows
returns-clause-marked c = refl

pub returns-clause-typed : goal.returns-clause-typed
unfolding first_rows more_rows
returns-clause-typed c = refl

pub returns-clause-unknown : goal.returns-clause-unknown
unfolding first_rows more_rows
returns-clause-unknown c = refl

pub returns-clause-no_value : goal.returns-clause-no_value
unfolding first_rows more_rows
returns-clause-no_value c = refl

pub returns-clause-apart : goal.returns-clause-apart
unfolding first_rows more_rows
returns-clause-apart c = refl

pub returns-clause-lacking : goal.returns-clause-lacking
unfolding first_rows more_rows
returns-clause-lacking c = refl

pub returns-clause-strict : goal.returns-clause-strict
unfolding first_rows more_rows
returns-clause-strict c = refl

pub returns-clause-findless : goal.returns-clause-findless
unfolding first_rows more_rows
returns-clause-findless c = refl

pub returns-clause-area : goal.returns-clause-area
unfolding first_rows more_rows
returns-clause-area c = refl

pub returns-clause-areas : goal.returns-clause-areas
unfolding first_rows more_rows
returns-clause-areas c = refl

pub returns-clause-language : goal.returns-clause-language
unfolding first_rows more_rows
returns-clause-language c = refl
