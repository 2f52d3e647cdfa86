use Rattle.std.proofs.Common.{arith}
use Rattle.std.proofs.lemmas.Str.Pattern.{starts_char}
use Rattle.phone_parts.proofs.Patterns.{begins_byte}
use Rattle.phone_read.proofs.dialled.begins_with_zero.Goals as goal

pub returns : goal.returns
returns c = begins_byte 48 c.args.digits.now c.starts_with.result (starts_char 48 _ _ c.starts_with.ensures.cases (omega arith) (omega arith)) (omega arith)
