use Rattle.std.proofs.Common.{arith}
use Rattle.phone_automaton.proofs.Cutting.{ends_in_ascii, ends_with_ascii, past_ascii}
use Rattle.phone_automaton.proofs.narrow.low_part.Goals as goal

pub returns-then-first-gt-LAST : goal.returns-then-first-gt-LAST
returns-then-first-gt-LAST c x = past_ascii c.args.range.0 c.args.range.1 x c.if-first-gt-LAST.true

pub returns-then-last-lt-LAST : goal.returns-then-last-lt-LAST
returns-then-last-lt-LAST c x = ends_in_ascii c.args.range.0 c.args.range.1 x c.if-last-lt-LAST.true

pub returns-else-last-lt-LAST : goal.returns-else-last-lt-LAST
returns-else-last-lt-LAST c x = ends_with_ascii c.args.range.0 c.args.range.1 x (omega (arith, c.if-last-lt-LAST.false))
