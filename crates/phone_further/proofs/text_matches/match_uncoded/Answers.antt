use Rattle.std.proofs.Common.{◌≡◌, chars, arith}
use Rattle.phone_values.specs.declared.error.ParseError.TheVariants.{InvalidCountryCode}
use Rattle.phone_further.proofs.TextReads.{neither_so, second_refused_so, second_so}
use Rattle.phone_further.proofs.text_matches.match_uncoded.Goals as goal

pub returns-in-Ok : goal.returns-in-Ok
returns-in-Ok g c =
    let like = g.L.Likeness.like c.args.likeness.now in
    let guessed = g.L.Likeness.guessed c.args.likeness.now in
    second_so like guessed c.args.database.now c.args.first (chars c.args.b.now) c.in-Ok.number c.match_beside.result c.in-Ok.ensures c.match_beside.ensures

pub returns-then-eq : goal.returns-then-eq
returns-then-eq g c =
    let like = g.L.Likeness.like c.args.likeness.now in
    let guessed = g.L.Likeness.guessed c.args.likeness.now in
    let error = c.in-Err.error in
    let why : error ≡ InvalidCountryCode = (let x = c.eq.ensures in let y = c.if-eq.true in grind arith) in
    neither_so like guessed c.args.database.now c.args.first (chars c.args.b.now) error c.match_bare.result why c.in-Err.ensures c.match_bare.ensures

pub returns-else-eq : goal.returns-else-eq
returns-else-eq g c =
    let like = g.L.Likeness.like c.args.likeness.now in
    let guessed = g.L.Likeness.guessed c.args.likeness.now in
    let error = c.in-Err.error in
    let other : ¬ (error ≡ InvalidCountryCode) = (λ e. let x = c.eq.ensures in let y = c.if-eq.false in grind arith) in
    second_refused_so like guessed c.args.database.now c.args.first (chars c.args.b.now) error c.not_a_number.result other c.in-Err.ensures
    c.not_a_number.ensures.number c.not_a_number.ensures.memory
