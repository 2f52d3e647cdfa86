use Rattle.std.proofs.Common.{◌≡◌, ℕ, List, map, reverse, take}
use Rattle.phone_territory.specs.Records.{id_of}
use Rattle.phone_plans.specs.Records.{has_id, last_place}
use Rattle.phone_index.specs.Orders.{place_of, text_of}
use Rattle.phone_plans.proofs.index.id_places.Given as goal

abbrev pub invariant-loop-place : goal.invariant-loop-place
invariant-loop-place l = (map text_of l.named.items ≡ map id_of (take l.place l.territories)) × ((id : List ℕ) → place_of id (reverse l.named.items) ≡ last_place (has_id id) (take l.place l.territories))
