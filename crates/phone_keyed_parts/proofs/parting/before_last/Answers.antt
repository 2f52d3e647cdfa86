use Rattle.std.proofs.lemmas.Str.{IsCharBoundary-start}
use Rattle.phone_keyed_parts.proofs.Lasts.{before_at, before_none}
use Rattle.phone_keyed_parts.proofs.parting.before_last.Goals as goal

pub returns-in-Some-clause-place : goal.returns-in-Some-clause-place
returns-in-Some-clause-place c =
    let found = c.in-Some.ensures.cases.1 in
    before_at c.args.part.now c.args.text.now c.in-Some.at _ found.1.split found.0

pub returns-in-None-clause-place : goal.returns-in-None-clause-place
returns-in-None-clause-place c = before_none c.args.part.now c.args.text.now c.in-None.ensures.cases

pub returns-in-None-clause-border : goal.returns-in-None-clause-border
returns-in-None-clause-border c = IsCharBoundary-start c.args.text.now c.utf8.text
