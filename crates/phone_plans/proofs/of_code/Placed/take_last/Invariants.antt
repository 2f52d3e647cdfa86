use Rattle.std.proofs.Common.{◌≡◌, length, map}
use Rattle.std.specs.List.{filter_map, slice_get}
use Rattle.phone_plans.proofs.of_code.Placed.take_last.Given as goal

abbrev pub invariant-loop-last : goal.invariant-loop-last
invariant-loop-last l =
    (l.self-inside.territories ≡ l.initial.self-inside.territories) ×
    (filter_map (slice_get l.initial.self-inside.territories.now) (map (λ e. e.place) l.initial.self-inside.places.now) ≡ filter_map (slice_get l.self-inside.territories.now) (map (λ e. e.place) l.self-inside.places.now))

abbrev pub decreases-loop-last : goal.decreases-loop-last
decreases-loop-last l = length l.self-inside.places.now
