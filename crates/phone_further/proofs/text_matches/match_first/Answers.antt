use Rattle.std.proofs.Common.{◌≡◌, None, Ok, Err, chars, arith}
use Rattle.phone_values.specs.declared.error.ParseError.TheVariants.{InvalidCountryCode}
use Rattle.std.proofs.lemmas.Bool.{not-true}
use Rattle.std.specs.Option.{option_copied}
use Rattle.phone_further.proofs.TextReads.{first_refused_so, first_so, uncoded_so, unsigned_first_so, written_reads}
use Rattle.phone_further.proofs.text_matches.match_first.Goals as goal

pub returns-then-not-first : goal.returns-then-not-first
returns-then-not-first g c is =
    let like = g.L.Likeness.like c.args.likeness.now in
    let guessed = g.L.Likeness.guessed c.args.likeness.now in
    unsigned_first_so like guessed c.args.database.now (chars c.args.a.now) (chars c.args.b.now) c.args.first c.match_uncoded.result is (not-true c.args.first.has_plus c.if-not-first.true)
    c.match_uncoded.ensures

pub returns-in-Ok : goal.returns-in-Ok
returns-in-Ok g c is =
    let like = g.L.Likeness.like c.args.likeness.now in
    let guessed = g.L.Likeness.guessed c.args.likeness.now in
    let db = c.args.database.now in
    let t = chars c.args.a.now in
    first_so like guessed db t (chars c.args.b.now) c.in-Ok.number c.match_text.result
    (written_reads db t c.args.first is None (option_copied c.hint_territory.result) (Ok c.in-Ok.number) c.hint_territory.ensures c.in-Ok.ensures) c.match_text.ensures

pub returns-then-eq : goal.returns-then-eq
returns-then-eq g c is =
    let like = g.L.Likeness.like c.args.likeness.now in
    let guessed = g.L.Likeness.guessed c.args.likeness.now in
    let db = c.args.database.now in
    let t = chars c.args.a.now in
    let error = c.in-Err.error in
    let why : error ≡ InvalidCountryCode = (let x = c.eq.ensures in let y = c.if-eq.true in grind arith) in
    uncoded_so like guessed db t (chars c.args.b.now) error c.match_unlisted.result why
    (written_reads db t c.args.first is None (option_copied c.hint_territory.result) (Err error) c.hint_territory.ensures c.in-Err.ensures) c.match_unlisted.ensures

pub returns-else-eq : goal.returns-else-eq
returns-else-eq g c is =
    let like = g.L.Likeness.like c.args.likeness.now in
    let guessed = g.L.Likeness.guessed c.args.likeness.now in
    let db = c.args.database.now in
    let t = chars c.args.a.now in
    let error = c.in-Err.error in
    let other : ¬ (error ≡ InvalidCountryCode) = (λ e. let x = c.eq.ensures in let y = c.if-eq.false in grind arith) in
    first_refused_so like guessed db t (chars c.args.b.now) error c.not_a_number.result other
    (written_reads db t c.args.first is None (option_copied c.hint_territory.result) (Err error) c.hint_territory.ensures c.in-Err.ensures) c.not_a_number.ensures.number c.not_a_number.ensures.memory
