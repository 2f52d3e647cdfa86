use Rattle.std.proofs.Common.{[], true, chars, sym, ◌∙◌, true≢false, unwrap_or}
use Rattle.std.specs.Option.{option_copied}
use Rattle.phone_matches.proofs.Sufficing.{if_grouped, not_both}
use Rattle.phone_matches.specs.Leniencies.{IsValidIn, is_grouped_well}
use Rattle.phone_matches.proofs.leniency.is_valid_and_grouped.Goals as goal

pub returns-then-not-branch : goal.returns-then-not-branch
returns-then-not-branch c =
    not_both (IsValidIn c.args.db.now c.args.number.now (chars c.args.text.now)) _
    (λ h. true≢false (sym (c.in_ok-is_valid_in.ensures.1 h) ∙ c.if-not-branch.true))

pub returns : goal.returns
returns c =
    if_grouped (IsValidIn c.args.db.now c.args.number.now (chars c.args.text.now))
    (is_grouped_well c.args.db.now (unwrap_or (option_copied c.args.alternates) []) c.args.strictness c.args.number.now (chars c.args.text.now))
    (c.in_ok-is_valid_in.ensures.0 c.if-not-branch.false) c.is_grouped_well.result c.is_grouped_well.ensures
