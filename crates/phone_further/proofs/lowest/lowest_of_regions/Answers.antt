use Rattle.std.proofs.Common.{subst}
use Rattle.phone_further.specs.Lowest.{IsLeast, example_of_regions, gives}
use Rattle.phone_further.proofs.Least.{none_lowest, region_link}
use Rattle.phone_further.proofs.lowest.lowest_of_regions.Goals as goal

pub of_lowest-requires : goal.of_lowest-requires
of_lowest-requires c =
    subst (IsLeast (gives c.args.kind) c.args.database.now) c.in-Some.is
    (subst (λ ms. IsLeast (gives c.args.kind) ms c.lowest_giving.result) c.territories.ensures c.lowest_giving.ensures)

pub returns-in-None : goal.returns-in-None
returns-in-None c =
    let db = c.args.database.now in
    let k = c.args.kind in
    let over : IsLeast (gives k) db c.lowest_giving.result =
    subst (λ ms. IsLeast (gives k) ms c.lowest_giving.result) c.territories.ensures c.lowest_giving.ensures in
    none_lowest (example_of_regions db k) (gives k) db (region_link db k) (subst (IsLeast (gives k) db) c.in-None.is over)
