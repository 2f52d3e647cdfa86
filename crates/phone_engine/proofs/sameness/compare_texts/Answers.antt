use Rattle.std.proofs.Common.{rules, ◌≡◌, Err, chars}
use Rattle.phone_engine.proofs.Taken.{both_so, first_so, second_so}
use Rattle.phone_engine.proofs.sameness.compare_texts.Goals as goal

pub returns-in_err-a : goal.returns-in_err-a
returns-in_err-a c =
    let engine = c.args.engine in
    let e = c.in_err-a.field-0.0 in
    let same : c.from_residual.result ≡ Err e = search rules in
    first_so engine.rules engine.database.now (chars c.args.a.now) (chars c.args.b.now) e
    c.from_residual.result same c.in_err-a.ensures

pub returns-in_err-b : goal.returns-in_err-b
returns-in_err-b c =
    let engine = c.args.engine in
    let e = c.in_err-b.field-0.0 in
    let same : c.from_residual-in_err-b.result ≡ Err e = search rules in
    second_so engine.rules engine.database.now (chars c.args.a.now) (chars c.args.b.now)
    c.in_ok-a.a e c.from_residual-in_err-b.result same c.in_ok-a.ensures c.in_err-b.ensures

pub returns : goal.returns
returns c =
    let engine = c.args.engine in
    both_so engine.rules engine.database.now (chars c.args.a.now) (chars c.args.b.now)
    c.in_ok-a.a c.in_ok-b.b c.in_ok-sameness_of.field-0 c.in_ok-sameness_of.ensures
    c.in_ok-a.ensures c.in_ok-b.ensures
