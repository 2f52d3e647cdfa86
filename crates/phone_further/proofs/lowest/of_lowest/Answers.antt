use Rattle.std.proofs.Common.{arith}
use Rattle.phone_read.proofs.Results.{ok_again}
use Rattle.phone_further.specs.Lowest.{example_of_regions, gives}
use Rattle.phone_further.proofs.Least.{region_link, some_lowest}
use Rattle.phone_further.proofs.lowest.of_lowest.Goals as goal

pub returns : goal.returns
returns c =
    let db = c.args.database.now in
    let k = c.args.kind in
    ok_again c.of_regions.result _ _
    (λ found e. some_lowest (example_of_regions db k) (gives k) db (region_link db k) c.args.code _ (omega (arith, c.ranges.code.fits)) c.requires e)
    c.of_regions.ensures
