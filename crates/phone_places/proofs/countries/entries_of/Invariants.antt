use Rattle.std.proofs.Common.{length}
use Rattle.phone_places.proofs.Loading.{IsSoFar}
use Rattle.phone_places.proofs.countries.entries_of.Given as goal
use denote.Shadow.{shadow}
use denote.Text.{Utf8}

abbrev pub invariant-loop-rest : goal.invariant-loop-rest
invariant-loop-rest l = shadow (Utf8 l.rest) × IsSoFar l.text l.rest l.entries.items

abbrev pub decreases-loop-rest : goal.decreases-loop-rest
decreases-loop-rest l = length l.rest
