use Rattle.std.proofs.Common.{[], chars, unwrap_or}
use Rattle.std.specs.Option.{option_copied}
use Rattle.phone_matches.proofs.Sufficing.{if_exact, if_possible, if_strict, if_valid_in}
use Rattle.phone_matches.proofs.leniency.suffices.Goals as goal

pub returns-in-Possible : goal.returns-in-Possible
returns-in-Possible c =
    if_possible c.args.db.now c.args.number.now (chars c.args.text.now) (unwrap_or (option_copied c.args.alternates) []) c.args.leniency c.in-Possible.is
    c.is_possible.result c.is_possible.ensures

pub returns-in-Valid : goal.returns-in-Valid
returns-in-Valid c =
    if_valid_in c.args.db.now c.args.number.now (chars c.args.text.now) (unwrap_or (option_copied c.args.alternates) []) c.args.leniency c.in-Valid.is
    c.is_valid_in.result c.is_valid_in.ensures

pub returns-in-StrictGrouping : goal.returns-in-StrictGrouping
returns-in-StrictGrouping c =
    if_strict c.args.db.now c.args.number.now (chars c.args.text.now) (unwrap_or (option_copied c.args.alternates) []) c.args.leniency
    c.in-StrictGrouping.is c.is_valid_and_grouped.result c.is_valid_and_grouped.ensures

pub returns-in-ExactGrouping : goal.returns-in-ExactGrouping
returns-in-ExactGrouping c =
    if_exact c.args.db.now c.args.number.now (chars c.args.text.now) (unwrap_or (option_copied c.args.alternates) []) c.args.leniency
    c.in-ExactGrouping.is c.is_valid_and_grouped-in-ExactGrouping.result c.is_valid_and_grouped-in-ExactGrouping.ensures
