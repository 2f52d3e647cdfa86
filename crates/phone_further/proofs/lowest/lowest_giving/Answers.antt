use Rattle.std.proofs.Common.{◌≡◌, None, arith}
use Rattle.std.proofs.lemmas.Grind.{common_steps}
use Rattle.phone_further.specs.Lowest.{gives}
use Rattle.phone_further.proofs.Least.{least, lowest_from}
use Rattle.phone_further.proofs.lowest.lowest_giving.Goals as goal

pub returns : goal.returns
returns c =
    let found : c.loop-m.low ≡ lowest_from (gives c.args.kind) c.args.territories.now None = grind (arith, common_steps) in
    least (gives c.args.kind) c.args.territories.now c.loop-m.low found
