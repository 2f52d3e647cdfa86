use Rattle.std.proofs.Common.{ap, ◌∙◌}
use Rattle.std.specs.List.{find}
use Rattle.std.specs.Option.{option_or}
use Rattle.phone_plans.specs.CodeLookUps.{is_other}
use Rattle.phone_plans.proofs.CodeLemmas.{first_of-given}
use Rattle.phone_plans.proofs.plans.Plans.first_by_code.Goals as goal

pub returns-in-Some : goal.returns-in-Some
returns-in-Some c =
    ap (λ o. option_or o (find is_other c.of_code-all.result)) c.in-Some.ensures
    ∙ first_of-given c.args.code.now c.args.self.now c.of_code-all.result c.of_code-all.ensures

pub returns-in-None : goal.returns-in-None
returns-in-None c =
    c.first_other.ensures
    ∙ ap (λ o. option_or o (find is_other c.of_code-all.result)) c.in-None.ensures
    ∙ first_of-given c.args.code.now c.args.self.now c.of_code-all.result c.of_code-all.ensures
