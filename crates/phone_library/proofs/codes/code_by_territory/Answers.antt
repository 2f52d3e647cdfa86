use Rattle.std.proofs.Common.{Some, None, option_map, ap, sym, ◌∙◌}
use Rattle.std.specs.Cow.{cow_str_bytes}
use Rattle.phone_library.proofs.TerritoryCodes.{code_by_rest}
use Rattle.phone_library.proofs.codes.code_by_territory.Goals as goal

pub returns-in-Some : goal.returns-in-Some
returns-in-Some c =
    code_by_rest c.args.m.now c.args.digits.now c.country_code-value.result (Some (cow_str_bytes c.in-Some.rest)) c.country_code-value.ensures
    (ap (option_map cow_str_bytes) (sym c.in-Some.is) ∙ c.in_ok-rest.ensures)

pub returns-in-None : goal.returns-in-None
returns-in-None c =
    code_by_rest c.args.m.now c.args.digits.now c.country_code-value.result None c.country_code-value.ensures
    (ap (option_map cow_str_bytes) (sym c.in-None.is) ∙ c.in_ok-rest.ensures)
