use Rattle.std.proofs.Common.{◌≡◌, drop, map}
use Rattle.serde_json.specs.View.{view}
use Rattle.phone_records.specs.Missing.{first_given}
use Rattle.phone_json.specs.Faults.{text_fault}
use Rattle.phone_json.specs.Told.{refusal_of}
use Rattle.phone_json.proofs.walk.in_texts.Given as goal

abbrev pub invariant-loop-item : goal.invariant-loop-item
invariant-loop-item l =
    let fault = text_fault (refusal_of l.wrong) in
    first_given (map fault (map view l.items)) ≡ first_given (map fault (map view (drop l.item-index l.items)))
