use Rattle.std.proofs.lemmas.Result.{IfOk-weaker}
use Rattle.phone_commands.proofs.columns.table_read.Goals as goal

pub returns-clause-table : goal.returns-clause-table
returns-clause-table g c = IfOk-weaker c.of.result _ _
    (λ t is. (c.in-Ok.bytes.items, c.in-Ok.ensures.tabs, is)) c.of.ensures.table
