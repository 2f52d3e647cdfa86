use Rattle.std.proofs.Common.{◌≡◌, drop}
use Rattle.std.specs.List.{find}
use Rattle.phone_values.specs.declared.kind.«Type».{«Type»}
use Rattle.phone_territory.specs.Kinds.{descriptor_for}
use Rattle.phone_read.specs.Kinds.{is_of}
use Rattle.phone_read.proofs.kinds.first_kind.Given as goal

abbrev pub invariant-loop-kind : goal.invariant-loop-kind
invariant-loop-kind l =
    let passes = λ (k : «Type»). is_of (descriptor_for k l.kinds) l.text in
    find passes l.tried ≡ find passes (drop l.kind-index l.tried)
