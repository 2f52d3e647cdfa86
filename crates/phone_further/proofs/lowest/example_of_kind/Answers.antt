use Rattle.std.proofs.Common.{option_map, ap}
use Rattle.phone_further.specs.Lowest.{seen}
use Rattle.phone_further.proofs.Codes.{code_so, region_so}
use Rattle.phone_further.proofs.lowest.example_of_kind.Goals as goal

pub returns-in-Some : goal.returns-in-Some
returns-in-Some c =
    region_so c.args.database.now c.args.kind c.read_example.result _ c.in-Some.region c.in-Some.text.now c.in_ok-found.ensures
    (ap (option_map seen) c.in-Some.is) c.read_example.ensures

pub returns-in-None : goal.returns-in-None
returns-in-None c =
    code_so c.args.database.now c.args.kind c.example_of_codes.result _ c.in_ok-found.ensures (ap (option_map seen) c.in-None.is)
    c.example_of_codes.ensures
