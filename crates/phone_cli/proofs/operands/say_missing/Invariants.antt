use Rattle.std.proofs.Common.{◌≡◌}
use Rattle.phone_cli.proofs.operands.say_missing.Given as goal

abbrev pub invariant-loop-name : goal.invariant-loop-name
invariant-loop-name g l = l.errors ≡ l.initial.errors
