use Rattle.std.proofs.Common.{[], rules}
use Rattle.phone_territory.proofs.by_kind.ByKind.compile.Goals as goal

pub returns-in_err-first-clause-read : goal.returns-in_err-first-clause-read
returns-in_err-first-clause-read g c =
    let third = c.compile_four-third.ensures.read _ (c.compile_four-fourth.ensures.read [] (tt, tt)) in
    let h = c.in_err-first.ensures.read _ (c.compile_four-second.ensures.read _ third) in
    search (rules, h)

pub returns-clause-read : goal.returns-clause-read
returns-clause-read g c =
    let third = c.compile_four-third.ensures.read _ (c.compile_four-fourth.ensures.read [] (tt, tt)) in
    c.in_ok-first.ensures.read _ (c.compile_four-second.ensures.read _ third)
