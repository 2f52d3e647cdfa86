use Rattle.std.proofs.Common.{◌∙◌, ◌+◌, sym, refl, arith}
use Rattle.phone_plain.proofs.Grouping.{capture_opens, plain_opens}
use Rattle.phone_plain.proofs.reading.open.Goals as goal

pub returns-then-from-lt-MOST_GROUPS : goal.returns-then-from-lt-MOST_GROUPS
returns-then-from-lt-MOST_GROUPS c =
    capture_opens c.args.from (record { rest = c.in_ok-rest.rest; groups = c.args.from.groups + 1 }) c.in_ok-rest.ensures
    (sym c.is_apart.ensures ∙ c.if-is_apart.true) refl (omega (arith, c.if-from-lt-MOST_GROUPS.true))

pub returns : goal.returns
returns c =
    plain_opens c.args.from (record { rest = c.in_ok-rest-2.rest; groups = c.args.from.groups }) c.in_ok-rest.rest.now c.in_ok-behind.field-0.now
    c.in_ok-rest.ensures c.in_ok-behind.ensures c.in_ok-rest-2.ensures refl
