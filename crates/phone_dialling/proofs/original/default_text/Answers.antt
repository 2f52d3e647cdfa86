use Rattle.std.proofs.Common.{string_bytes}
use Rattle.phone_dialling.proofs.Originals.{default_so}
use Rattle.phone_dialling.proofs.original.default_text.Goals as goal

pub returns : goal.returns
returns c =
    default_so string_bytes c.args.database.now c.args.raw.now c.args.number.now c.args.m.now c.args.layout.now c.in_ok-leaves.leaves
    c.hinted_text.result c.in_ok-leaves.ensures c.hinted_text.ensures
