use Rattle.std.proofs.Common.{◌≡◌, ℕ, List, Option, length, map, option_map}
use Rattle.std.specs.List.{filter_map, slice_get}
use Rattle.phone_plans.specs.Lasts.{with_last}
use Rattle.phone_records.specs.declared.loader.Metadata.{Metadata}
use Rattle.phone_plans.proofs.of_code.WithLasts.take_last.Given as goal

-- what stands at a place
abbrev pub at : List Metadata → ℕ → Option (Metadata × Option Metadata)
at db k = option_map (with_last db) (slice_get db k)

abbrev pub invariant-loop-last : goal.invariant-loop-last
invariant-loop-last l =
    (l.self-inside.database ≡ l.initial.self-inside.database) ×
    (filter_map (at l.initial.self-inside.database.now) (map (λ e. e.place) l.initial.self-inside.places.now) ≡ filter_map (at l.self-inside.database.now) (map (λ e. e.place) l.self-inside.places.now))

abbrev pub decreases-loop-last : goal.decreases-loop-last
decreases-loop-last l = length l.self-inside.places.now
