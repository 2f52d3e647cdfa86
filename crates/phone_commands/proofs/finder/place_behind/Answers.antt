use Rattle.phone_commands.proofs.MatchLemmas.{border, not_earlier}
use Rattle.phone_commands.proofs.finder.place_behind.Goals as goal

pub column_at-column-requires-clause-to_border : goal.column_at-column-requires-clause-to_border
column_at-column-requires-clause-to_border c =
    let rest = c.requires.front in
    border c.args.text.now c.args.front.now rest.0 rest.1 c.utf8.text c.utf8.front

pub column_at-column-requires-clause-behind : goal.column_at-column-requires-clause-behind
column_at-column-requires-clause-behind c =
    let rest = c.requires.front in
    not_earlier c.args.text.now c.args.front.now rest.0 rest.1 c.utf8.text c.utf8.front
    c.args.from c.requires.from_border c.requires.behind

pub returns-clause-border : goal.returns-clause-border
returns-clause-border c =
    let rest = c.requires.front in
    border c.args.text.now c.args.front.now rest.0 rest.1 c.utf8.text c.utf8.front
