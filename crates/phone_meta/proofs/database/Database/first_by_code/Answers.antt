use Rattle.std.proofs.Common.{ap, ◌∙◌}
use Rattle.std.specs.List.{find}
use Rattle.std.specs.Option.{option_or}
use Rattle.phone_plans.specs.CodeLookUps.{is_other_of}
use Rattle.phone_plans.proofs.CodeLemmas.{first_of-territories}
use Rattle.phone_meta.proofs.database.Database.first_by_code.Goals as goal

pub returns-in-Some : goal.returns-in-Some
returns-in-Some c =
    let code = c.args.code.now in
    let db = c.args.self.now in
    ap (λ o. option_or o (find (is_other_of code) db)) (rw c.territories-all.ensures at c.in-Some.ensures)
    ∙ first_of-territories code db

pub returns-in-None : goal.returns-in-None
returns-in-None c =
    let code = c.args.code.now in
    let db = c.args.self.now in
    rw c.territories-all.ensures at c.first_other.ensures
    ∙ ap (λ o. option_or o (find (is_other_of code) db)) (rw c.territories-all.ensures at c.in-None.ensures)
    ∙ first_of-territories code db
