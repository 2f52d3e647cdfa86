use Rattle.std.proofs.Common.{inr, None, Some, Ok, option_map, string_bytes, ap, sym, ◌∙◌}
use Rattle.phone_further.specs.Examples
use Rattle.phone_further.proofs.Codes.{read_so}
use Rattle.phone_further.proofs.lowest.example_of_codes.Goals as goal

pub returns-in-Some : goal.returns-in-Some
returns-in-Some c =
    read_so c.args.database.now c.args.kind c.read_example.result (Some c.as_str.result.now) _ c.in_ok-text.ensures
    (ap (option_map string_bytes) c.in-Some.is ∙ ap Some (sym c.as_str.ensures.value)) c.read_example.ensures

pub returns-in-None : goal.returns-in-None
returns-in-None c =
    read_so c.args.database.now c.args.kind (Ok None) None _ c.in_ok-text.ensures (ap (option_map string_bytes) c.in-None.is) (inr Examples.none)
