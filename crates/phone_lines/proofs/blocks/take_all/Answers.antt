use Rattle.std.proofs.Common.{Err, [], refl, ap, arith}
use Rattle.phone_device.proofs.PassingLemmas.{Passes-nothing}
use Rattle.phone_lines.specs.TakenEnds.EndsBy.{output_failed}
use Rattle.phone_lines.proofs.Ends.{memory_held}
use Rattle.phone_lines.proofs.blocks.take_all.Goals as goal

pub returns-in-Err-Fault-clause-broken : goal.returns-in-Err-Fault-clause-broken
returns-in-Err-Fault-clause-broken g c =
    let fault = rw c.in-Err-Fault.field-0-is at c.in-Err-Fault.ensures.faults in
    output_failed (record {
      bytes = [];
      read = Passes-nothing _;
      beginning = c.in-Err-Fault.ensures.broken (ap Err c.in-Err-Fault.field-0-is) _;
      sink_fault = fault;
    })

pub returns-in-Err-Memory-clause-halts : goal.returns-in-Err-Memory-clause-halts
returns-in-Err-Memory-clause-halts g c =
    let same = rw c.in-Err-Memory.field-0-is at c.in-Err-Memory.ensures.faults in
    memory_held _ _ _ _ _ [] _ _ (Passes-nothing _) (omega (arith, same)) refl
    (c.in-Err-Memory.ensures.memory (ap Err c.in-Err-Memory.field-0-is))
