use Rattle.std.proofs.Common.{◌≡◌, None, arith}
use Rattle.std.proofs.lemmas.Grind.{common_steps}
use Rattle.phone_further.specs.Lowest.{serves}
use Rattle.phone_further.proofs.Least.{least, lowest_from}
use Rattle.phone_further.proofs.lowest.lowest_serving.Goals as goal

pub returns : goal.returns
returns c =
    let p = serves c.args.database.now c.args.kind in
    let found : c.loop-m.low ≡ lowest_from p c.args.territories.now None = grind (arith, common_steps) in
    least p c.args.territories.now c.loop-m.low found
