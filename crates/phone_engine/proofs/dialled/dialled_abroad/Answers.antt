use Rattle.std.proofs.Common.{string_bytes}
use Rattle.phone_engine.proofs.DialledTexts.{behind}
use Rattle.phone_engine.proofs.dialled.dialled_abroad.Goals as goal

pub returns-in-Some-signless : goal.returns-in-Some-signless
returns-in-Some-signless c =
    behind string_bytes c.args.from.now c.in-Some.prefix.now c.in-Some-signless.rest.now
    c.args.text.now c.behind_prefix.result c.in-Some.ensures c.in-Some-signless.ensures.found
    c.behind_prefix.ensures
