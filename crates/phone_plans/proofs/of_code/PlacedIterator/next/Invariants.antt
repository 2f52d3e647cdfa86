use Rattle.std.proofs.Common.{◌≡◌, length, map}
use Rattle.std.specs.List.{filter_map, slice_get}
use Rattle.phone_plans.proofs.of_code.PlacedIterator.next.Given as goal

abbrev pub invariant-loop-first : goal.invariant-loop-first
invariant-loop-first l =
    (l.self-inside.territories ≡ l.initial.self-inside.territories) ×
    (filter_map (slice_get l.initial.self-inside.territories.now) (map (λ e. e.place) l.initial.self-inside.places.now) ≡ filter_map (slice_get l.self-inside.territories.now) (map (λ e. e.place) l.self-inside.places.now))

abbrev pub decreases-loop-first : goal.decreases-loop-first
decreases-loop-first l = length l.self-inside.places.now
