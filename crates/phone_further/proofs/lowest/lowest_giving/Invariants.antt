use Rattle.std.proofs.Common.{◌≡◌, None, drop}
use Rattle.phone_further.specs.Lowest.{gives}
use Rattle.phone_further.proofs.Least.{lowest_from}
use Rattle.phone_further.proofs.lowest.lowest_giving.Given as goal

abbrev pub invariant-loop-m : goal.invariant-loop-m
invariant-loop-m l = lowest_from (gives l.kind) (drop l.m-index l.territories) l.low ≡ lowest_from (gives l.kind) l.territories None
