use Rattle.std.proofs.Common.{◌≡◌, None, Ok, Err, chars, arith}
use Rattle.phone_values.specs.declared.error.ParseError.TheVariants.{InvalidCountryCode}
use Rattle.std.proofs.lemmas.Bool.{not-true}
use Rattle.std.specs.Option.{option_copied}
use Rattle.phone_further.proofs.TextReads.{beside_so, read_so, refused_so, unsigned_so, written_reads}
use Rattle.phone_further.proofs.text_matches.match_written.Goals as goal

pub returns-then-not-written : goal.returns-then-not-written
returns-then-not-written g c is =
    let like = g.L.Likeness.like c.args.likeness.now in
    let guessed = g.L.Likeness.guessed c.args.likeness.now in
    unsigned_so like guessed c.args.database.now c.args.number.now (chars c.args.text.now) c.args.written c.match_beside.result is (not-true c.args.written.has_plus c.if-not-written.true) c.match_beside.ensures

pub returns-in-Ok : goal.returns-in-Ok
returns-in-Ok g c is =
    let like = g.L.Likeness.like c.args.likeness.now in
    let guessed = g.L.Likeness.guessed c.args.likeness.now in
    let db = c.args.database.now in
    let t = chars c.args.text.now in
    read_so like guessed db c.args.number.now t c.in-Ok.read c.match_numbers.result (written_reads db t c.args.written is None (option_copied c.hint_territory.result) (Ok c.in-Ok.read) c.hint_territory.ensures c.in-Ok.ensures)
    c.match_numbers.ensures

pub returns-then-eq : goal.returns-then-eq
returns-then-eq g c is =
    let like = g.L.Likeness.like c.args.likeness.now in
    let guessed = g.L.Likeness.guessed c.args.likeness.now in
    let db = c.args.database.now in
    let t = chars c.args.text.now in
    let error = c.in-Err.error in
    let why : error ≡ InvalidCountryCode = (let x = c.eq.ensures in let y = c.if-eq.true in grind arith) in
    beside_so like guessed db c.args.number.now t error c.match_again.result why (written_reads db t c.args.written is None (option_copied c.hint_territory.result) (Err error) c.hint_territory.ensures c.in-Err.ensures)
    c.match_again.ensures

pub returns-else-eq : goal.returns-else-eq
returns-else-eq g c is =
    let like = g.L.Likeness.like c.args.likeness.now in
    let guessed = g.L.Likeness.guessed c.args.likeness.now in
    let db = c.args.database.now in
    let t = chars c.args.text.now in
    let error = c.in-Err.error in
    let other : ¬ (error ≡ InvalidCountryCode) = (λ e. let x = c.eq.ensures in let y = c.if-eq.false in grind arith) in
    refused_so like guessed db c.args.number.now t error c.not_a_number.result other (written_reads db t c.args.written is None (option_copied c.hint_territory.result) (Err error) c.hint_territory.ensures c.in-Err.ensures)
    c.not_a_number.ensures.number c.not_a_number.ensures.memory
