use Rattle.std.proofs.Common.{◌≡◌, take, Bor}
use Rattle.std.specs.List.{flat_map}
use Rattle.phone_records.specs.declared.loader.Descriptor.{Descriptor}
use Rattle.phone_engine.proofs.possibilities.all_lengths.Given as goal

abbrev pub invariant-loop-descriptor : goal.invariant-loop-descriptor
invariant-loop-descriptor l =
    l.lengths.items ≡ flat_map (λ (d : Bor Descriptor). d.now.possible_length) (take l.descriptor-index l.counting)
