use Rattle.phone_columns.proofs.CallLemmas.{too_long, written_all}
use Rattle.phone_columns.specs.Rows.{hint_at, rows_from}
use Rattle.phone_columns.proofs.call.columns_of_given.Goals as goal

pub returns-in-Ok-clause-written : goal.returns-in-Ok-clause-written
returns-in-Ok-clause-written c = λ ok.
    written_all c.args.engine.rules c.args.engine.database.now c.args.columns.now
    (rows_from 0 c.args.given.now.texts (hint_at c.args.given.now.hints)) c.in-Ok.body _ _ _ _ _
    c.in-Ok.ensures (c.give_body.ensures.bytes ok) (c.give_body.ensures.places ok)

pub returns-in-Ok-clause-too_small : goal.returns-in-Ok-clause-too_small
returns-in-Ok-clause-too_small c = λ small.
    too_long c.args.engine.rules c.args.engine.database.now c.args.columns.now
    (rows_from 0 c.args.given.now.texts (hint_at c.args.given.now.hints)) c.in-Ok.body _ _ _
    c.in-Ok.ensures (c.give_body.ensures.too_small small) c.give_body.ensures.told
