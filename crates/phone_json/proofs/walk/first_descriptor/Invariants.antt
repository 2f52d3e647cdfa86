use Rattle.std.proofs.Common.{◌≡◌, ℕ, drop, map, List, Bor, codes}
use Rattle.serde_json.specs.View.{view}
use Rattle.phone_records.specs.Missing.{first_given}
use Rattle.phone_json.specs.Faults.{record_fault, fault_at, descriptor_fault}
use Rattle.phone_json.proofs.walk.first_descriptor.Given as goal

abbrev pub invariant-loop-key : goal.invariant-loop-key
invariant-loop-key l =
    let fault = λ (key : Bor (List ℕ)). fault_at (record_fault descriptor_fault) (codes "metadata") (view l.object) key.now in
    first_given (map fault l.keys) ≡ first_given (map fault (drop l.key-index l.keys))
