use Rattle.phone_chars.proofs.Ascii.{no_ascii_digit, some_ascii_digit}
use Rattle.phone_chars.proofs.norm.digit_of_ascii.Goals as goal

pub returns-then-digit-eq0 : goal.returns-then-digit-eq0
returns-then-digit-eq0 c = no_ascii_digit c.args.byte c.from.result c.requires c.from.ensures c.if-digit-eq0.true

pub returns-else-digit-eq0 : goal.returns-else-digit-eq0
returns-else-digit-eq0 c = some_ascii_digit c.args.byte c.from.result c.requires c.from.ensures c.if-digit-eq0.false
