use Rattle.std.proofs.Common.{◌≡◌, ℕ, length, map, option_map}
use Rattle.std.specs.List.{filter_map, slice_get}
use Rattle.phone_plans.specs.Lasts.{with_last}
use Rattle.phone_plans.proofs.of_code.WithLastsIterator.next.Given as goal

abbrev pub invariant-loop-first : goal.invariant-loop-first
invariant-loop-first l =
    let db = l.initial.self-inside.database.now in
    let at = λ (k : ℕ). option_map (with_last db) (slice_get db k) in
    (l.self-inside.database ≡ l.initial.self-inside.database) ×
    (filter_map at (map (λ e. e.place) l.initial.self-inside.places.now) ≡ filter_map at (map (λ e. e.place) l.self-inside.places.now))

abbrev pub decreases-loop-first : goal.decreases-loop-first
decreases-loop-first l = length l.self-inside.places.now
