use Rattle.std.proofs.Common.{inr}
use Rattle.phone_library_text.specs.Written
use Rattle.phone_library_text.proofs.written.read_written.Goals as goal

pub returns-then-is_too_long : goal.returns-then-is_too_long
returns-then-is_too_long c = inr (Written.too_long (c.is_too_long.ensures.0 c.if-is_too_long.true))
