use Rattle.std.proofs.Common.{◌≡◌, Bor, List, drop, map}
use Rattle.phone_records.specs.Missing.{first_given}
use Rattle.phone_records.specs.declared.loader.Metadata.{Metadata}
use Rattle.phone_further.specs.Lowest.{region_example}
use Rattle.phone_further.proofs.lowest.first_among.Given as goal

abbrev pub invariant-loop-m : goal.invariant-loop-m
invariant-loop-m l =
    let of = λ (ms : List (Bor Metadata)). first_given (map (region_example l.kind) (map (λ m. m.now) ms)) in
    of l.found ≡ of (drop l.m-index l.found)
