use Rattle.std.proofs.Common.{◌≡◌, ◌+◌, ◌-◌, ◌<◌, ap, sym, ◌∙◌, arith}
use Rattle.phone_questions.specs.Truncation.{with_national}
use Rattle.phone_questions.proofs.Cuts.{ended, first_by, first_of_cuts, turn}
use Rattle.phone_questions.proofs.truncation.first_valid.Goals as goal

pub returns-in-Nothing : goal.returns-in-Nothing
returns-in-Nothing c =
    let db = c.args.database.now in
    let n = c.args.number.now in
    let next = c.shortened-national.result in
    let told = turn db n c.loop-i.national next c.loop-i._i c.in_ok-left_of.field-0 _ (omega (arith, c.loop-i-test.true)) c.shortened-national.ensures
    c.in_ok-left_of.ensures c.loop-i.invariant in
    sym (told ∙ ap (λ l. first_by l (with_national n next) (first_of_cuts db n (17 - (c.loop-i._i + 1)) next)) c.in-Nothing.is)

pub returns-in-Valid : goal.returns-in-Valid
returns-in-Valid c =
    let db = c.args.database.now in
    let n = c.args.number.now in
    let next = c.shortened-national.result in
    let told = turn db n c.loop-i.national next c.loop-i._i c.in_ok-left_of.field-0 _ (omega (arith, c.loop-i-test.true)) c.shortened-national.ensures
    c.in_ok-left_of.ensures c.loop-i.invariant in
    sym (told ∙ ap (λ l. first_by l (with_national n next) (first_of_cuts db n (17 - (c.loop-i._i + 1)) next)) c.in-Valid.is)

pub loop-i-preserved : goal.loop-i-preserved
loop-i-preserved c =
    let db = c.args.database.now in
    let n = c.args.number.now in
    let next = c.shortened-national.result in
    let told = turn db n c.loop-i.national next c.loop-i._i c.in_ok-left_of.field-0 _ (omega (arith, c.loop-i-test.true)) c.shortened-national.ensures
    c.in_ok-left_of.ensures c.loop-i.invariant in
    told ∙ ap (λ l. first_by l (with_national n next) (first_of_cuts db n (17 - (c.loop-i._i + 1)) next)) c.in-Invalid.is

pub returns : goal.returns
returns c =
    sym (ended c.args.database.now c.args.number.now c.loop-i.national c.loop-i._i _ (λ small. omega (arith, c.loop-i-test.false, small)) c.loop-i.invariant)
