use Rattle.std.proofs.Common.{subst}
use Rattle.phone_further.specs.Lowest.{IsLeast, example_of_code, serves}
use Rattle.phone_further.proofs.Least.{code_link, none_lowest}
use Rattle.phone_further.proofs.lowest.lowest_of_codes.Goals as goal

pub of_lowest_code-requires : goal.of_lowest_code-requires
of_lowest_code-requires c =
    let db = c.args.database.now in
    subst (IsLeast (serves db c.args.kind) db) c.in-Some.is
    (subst (λ ms. IsLeast (serves db c.args.kind) ms c.in_ok-low.low) c.territories.ensures c.in_ok-low.ensures)

pub returns-in-None : goal.returns-in-None
returns-in-None c =
    let db = c.args.database.now in
    let k = c.args.kind in
    let over : IsLeast (serves db k) db c.in_ok-low.low =
    subst (λ ms. IsLeast (serves db k) ms c.in_ok-low.low) c.territories.ensures c.in_ok-low.ensures in
    none_lowest (example_of_code db k) (serves db k) db (code_link db k) (subst (IsLeast (serves db k) db) c.in-None.is over)
