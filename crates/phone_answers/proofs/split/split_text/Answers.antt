use Rattle.std.proofs.Common.{chars}
use Rattle.phone_answers.proofs.SplitLemmas.{listed, split}
use Rattle.phone_answers.proofs.split.split_text.Goals as goal

pub shown_of_pair-requires : goal.shown_of_pair-requires
shown_of_pair-requires c =
    let engine = c.args.engine in
    listed engine.rules engine.database.now engine.hint (chars c.args.text.now) c.args.which c.in_ok-found.found c.in_ok-found.ensures

pub returns : goal.returns
returns c =
    let engine = c.args.engine in
    split engine.rules engine.database.now engine.hint (chars c.args.text.now) c.args.which c.args.shown c.in_ok-found.found c.in_ok-found.ensures
    c.shown_of_pair.result c.shown_of_pair.ensures
