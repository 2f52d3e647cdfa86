use Rattle.std.proofs.Common.{◌≡◌, true, false, sym, ◌∙◌}
use Rattle.phone_answers.specs.Extras.{tells_doubts}
use Rattle.phone_answers.proofs.extra.told_by.Goals as goal

pub returns-in_ok-suspicion_of : goal.returns-in_ok-suspicion_of
returns-in_ok-suspicion_of c =
    let is : tells_doubts c.args.column.now.told ≡ true = sym c.tells_doubts.ensures ∙ c.if-tells_doubts.true in
    rw is c.in_ok-suspicion_of.ensures

pub returns-else-tells_doubts : goal.returns-else-tells_doubts
returns-else-tells_doubts c =
    let is : tells_doubts c.args.column.now.told ≡ false = sym c.tells_doubts.ensures ∙ c.if-tells_doubts.false in
    rw is c.told_beside.ensures
