use Rattle.std.proofs.Common.{sym, ◌∙◌}
use Rattle.phone_prefixes.proofs.Found.{prefix_is}
use Rattle.phone_prefixes.proofs.Parted.{is_some}
use Rattle.phone_prefixes.proofs.lines.is_prefix.Goals as goal

pub returns-then-bytes-le-MOST_DIGITS : goal.returns-then-bytes-le-MOST_DIGITS
returns-then-bytes-le-MOST_DIGITS c =
    let tests = c.if-bytes-le-MOST_DIGITS.true in
    c.are_digits.ensures ∙ prefix_is c.args.bytes.now (is_some c.args.bytes.now (sym c.is_empty.ensures ∙ tests.0)) tests.1
