use Rattle.std.proofs.Common.{◌≡◌, [], chars, unwrap_or, sym, ◌∙◌}
use Rattle.std.specs.Option.{option_copied}
use Rattle.phone_matches.proofs.Told.{if_all, if_told_piece, some_piece, told_none}
use Rattle.phone_matches.proofs.numbers.number_between.Goals as goal

pub returns-then-not-may_be_number-clause-told : goal.returns-then-not-may_be_number-clause-told
returns-then-not-may_be_number-clause-told c =
    told_none c.args.db.now (unwrap_or (option_copied c.args.alternates) []) c.args.hint c.args.leniency (chars c.args.before.now) (chars c.args.piece.now) (chars c.args.after.now)
    c.may_be_number.result c.may_be_number.ensures c.if-not-may_be_number.true

pub returns-clause-told : goal.returns-clause-told
returns-clause-told c =
    if_told_piece c.args.db.now (unwrap_or (option_copied c.args.alternates) []) c.args.hint c.args.leniency (chars c.args.before.now) (chars c.args.piece.now) (chars c.args.after.now)
    c.may_be_number.result c.may_be_number.ensures c.if-not-may_be_number.false c.number_in.result c.number_in.ensures

pub returns-clause-some : goal.returns-clause-some
returns-clause-some c =
    let passed = sym c.may_be_number.ensures ∙ c.if-not-may_be_number.false in
    if_all c.number_in.result (¬ (c.args.piece.now ≡ []))
    (some_piece c.args.leniency (chars c.args.before.now) c.args.piece.now (chars c.args.after.now) passed)
