use Rattle.std.proofs.Common.{rules}
use Rattle.phone_doubts.proofs.Reasons.{two_so}
use Rattle.phone_doubts.proofs.answer.says_two_numbers.Goals as goal

pub returns : goal.returns
returns c = λ number.
    let engine = c.args.engine in
    two_so engine.rules engine.database.now engine.hint c.args.text.now number c.in_ok-found.found c.in_ok-found.ensures
    c.is_some.result (search rules)
