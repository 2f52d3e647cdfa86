use Rattle.std.proofs.Common.{◌∙◌, sym, refl}
use Rattle.phone_plain.proofs.Counting.{not_repeated, repeated_once}
use Rattle.phone_plain.proofs.bounds.repeated.Goals as goal

pub returns-then-is_apart : goal.returns-then-is_apart
returns-then-is_apart c = not_repeated c.args.part c.args.from (sym c.is_apart.ensures ∙ c.if-is_apart.true)

pub returns : goal.returns
returns c =
    repeated_once c.args.part c.in_ok-repetition.field-0 c.args.from (record { rest = c.in_ok-times.rest; groups = c.args.from.groups }) c.in_ok-times.times
    c.in_ok-times.ensures (sym c.is_apart-2.ensures ∙ c.if-not-is_apart.false) refl c.in_ok-repetition.ensures
