use Rattle.std.proofs.Common.{sym, ◌∙◌}
use Rattle.phone_values.proofs.Digits.{number_some, number_none}
use Rattle.phone_read.proofs.ListedFronts.{prefix_listed, prefix_malformed, prefix_unlisted}
use Rattle.phone_read.proofs.calling_code.listed_number.Goals as goal

pub returns-in_default : goal.returns-in_default
returns-in_default c = λ digits. prefix_malformed c.args.db.now c.args.prefix.now digits (number_none 16 c.args.prefix.now c.in_default.ensures.value.0)

pub returns-then-is_listed : goal.returns-then-is_listed
returns-then-is_listed c = λ digits.
    prefix_listed c.args.db.now c.args.prefix.now digits c.in-Ok.code (number_some 16 c.args.prefix.now c.in-Ok.code c.in-Ok.ensures.value.0)
    (sym c.is_listed.ensures ∙ c.if-is_listed.true)

pub returns-else-is_listed : goal.returns-else-is_listed
returns-else-is_listed c = λ digits.
    prefix_unlisted c.args.db.now c.args.prefix.now digits c.in-Ok.code (number_some 16 c.args.prefix.now c.in-Ok.code c.in-Ok.ensures.value.0)
    (sym c.is_listed.ensures ∙ c.if-is_listed.false)
