use Rattle.std.proofs.Common.{◌∙◌, sym, ap}
use Rattle.std.specs.Option.{option_and_then}
use Rattle.phone_values.proofs.Digits.{number_none, number_some}
use Rattle.phone_places.specs.Names.{region_of}
use Rattle.phone_places.proofs.named.code_region.Goals as goal

pub returns-in-Ok : goal.returns-in-Ok
returns-in-Ok c = c.region_of.ensures ∙ sym (ap (option_and_then (region_of c.args.plans.now)) (number_some 16 c.args.text.now c.in-Ok.code c.in-Ok.ensures.value.0))

pub returns-in-Err : goal.returns-in-Err
returns-in-Err c = sym (ap (option_and_then (region_of c.args.plans.now)) (number_none 16 c.args.text.now c.in-Err.ensures.value.0))
