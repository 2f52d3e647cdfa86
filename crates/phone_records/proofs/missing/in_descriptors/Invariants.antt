use Rattle.std.proofs.Common.{◌≡◌, drop, map, Option, Bor}
use Rattle.phone_records.specs.Missing.{first_given, missing_in_descriptor}
use Rattle.phone_records.specs.declared.loader.Descriptor.{Descriptor}
use Rattle.phone_records.proofs.missing.in_descriptors.Given as goal

abbrev pub invariant-loop-descriptor : goal.invariant-loop-descriptor
invariant-loop-descriptor l =
    let f = λ (d : Bor (Option Descriptor)). missing_in_descriptor d.now in
    first_given (map f l.descriptors) ≡ first_given (map f (drop l.descriptor-index l.descriptors))
