use Rattle.std.proofs.Common.{◌≡◌, ℕ, List, map, take, Bor}
use Rattle.phone_territory.specs.Records.{id_of}
use Rattle.phone_records.specs.declared.loader.Metadata.{Metadata}
use Rattle.phone_plans.proofs.plans.ids.Given as goal

abbrev pub invariant-loop-territory : goal.invariant-loop-territory
invariant-loop-territory l =
    map (λ (id : Bor (List ℕ)). id.now) l.ids.items ≡ map (λ (t : Bor Metadata). id_of t.now) (take l.territory-index l.found)
