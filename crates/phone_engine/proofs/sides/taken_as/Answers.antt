use Rattle.std.proofs.Common.{◌≡◌, chars, arith}
use Rattle.phone_values.specs.declared.error.ParseError.TheVariants.{InvalidCountryCode}
use Rattle.phone_engine.proofs.Taken.{number_so, refused_so, uncoded_so}
use Rattle.phone_engine.proofs.sides.taken_as.Goals as goal

pub returns-in-Ok : goal.returns-in-Ok
returns-in-Ok c =
    let by = c.args.engine.rules in
    let db = c.args.engine.database.now in
    number_so by db (chars c.args.text.now) c.in-Ok.number c.side_of.result c.side_of.ensures
    c.in-Ok.ensures

pub returns-then-eq : goal.returns-then-eq
returns-then-eq c =
    let by = c.args.engine.rules in
    let db = c.args.engine.database.now in
    let error = c.in-Err.error in
    let why : error ≡ InvalidCountryCode =
    (let x = c.eq.ensures in let y = c.if-eq.true in grind arith) in
    uncoded_so by db (chars c.args.text.now) error c.dialled_side.result why c.in-Err.ensures
    c.dialled_side.ensures

pub returns-else-eq : goal.returns-else-eq
returns-else-eq c =
    let by = c.args.engine.rules in
    let db = c.args.engine.database.now in
    let error = c.in-Err.error in
    let other : ¬ (error ≡ InvalidCountryCode) =
    (λ e. let x = c.eq.ensures in let y = c.if-eq.false in grind arith) in
    refused_so by db (chars c.args.text.now) error other c.in-Err.ensures
