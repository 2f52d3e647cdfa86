use Rattle.std.proofs.Common.{◌≡◌, map, take}
use Rattle.phone_territory.specs.Records.{id_of}
use Rattle.phone_index.specs.Orders.{place_of}
use Rattle.phone_plans.proofs.index.lasts.Given as goal

abbrev pub invariant-loop-territory : goal.invariant-loop-territory
invariant-loop-territory l = l.lasts.items ≡ map (λ m. place_of (id_of m) l.by_id) (take l.territory-index l.territories)
