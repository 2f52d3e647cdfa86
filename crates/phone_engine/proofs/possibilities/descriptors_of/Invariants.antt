use Rattle.std.proofs.Common.{◌≡◌, ◌++◌, drop, map, Bor}
use Rattle.std.specs.List.{filter_map}
use Rattle.phone_values.specs.declared.kind.«Type».{«Type»}
use Rattle.phone_territory.specs.Kinds.{descriptor_for, kinds_of}
use Rattle.phone_records.specs.declared.loader.Descriptor.{Descriptor}
use Rattle.phone_engine.proofs.possibilities.descriptors_of.Given as goal

abbrev pub invariant-loop-kind : goal.invariant-loop-kind
invariant-loop-kind l =
    let its = λ (k : «Type»). descriptor_for k (kinds_of l.m) in
    map (λ (d : Bor Descriptor). d.now) l.found.items ++ filter_map its (drop l.kind-index l.kinds) ≡ filter_map its l.kinds
