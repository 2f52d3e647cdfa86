use Rattle.std.proofs.Common.{◌≡◌, ℕ, filter, map, take}
use Rattle.phone_plans.specs.Records.{has_code, places_where}
use Rattle.phone_index.specs.Orders as placed
use Rattle.phone_plans.proofs.index.code_places.Given as goal

abbrev pub invariant-loop-place : goal.invariant-loop-place
invariant-loop-place l = (code : ℕ) → map (λ e. e.place) (filter (placed.has_code code) l.coded.items) ≡ places_where (has_code code) (take l.place l.territories)
