use Rattle.std.proofs.Common.{◌≡◌, take}
use Rattle.phone_pattern.proofs.Refused.{ArePatterns}
use Rattle.phone_pattern.proofs.pool.Pool.patterns.Given as goal

abbrev pub invariant-loop-text : goal.invariant-loop-text
invariant-loop-text l = (l.made.items ≡ take l.text-index l.texts) × ArePatterns (take l.text-index l.texts)
