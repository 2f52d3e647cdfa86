use Rattle.std.proofs.Common.{◌≡◌, length}
use Rattle.phone_matches.specs.Texts.{from_part}
use Rattle.phone_matches.proofs.texts.from_part.Given as goal

abbrev pub invariant-loop-rest : goal.invariant-loop-rest
invariant-loop-rest l = from_part l.part l.text ≡ from_part l.part l.rest

abbrev pub decreases-loop-rest : goal.decreases-loop-rest
decreases-loop-rest l = length l.rest
