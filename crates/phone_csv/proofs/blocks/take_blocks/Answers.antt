use Rattle.std.proofs.Common.{rules, ◌≡◌, ◌+◌, ◌++◌, Err, length, length-append, arith, sym, ap, ap₂, ◌∙◌}
use Rattle.std.proofs.lemmas.List.{append-nil}
use Rattle.phone_device.proofs.PassingLemmas.{Passes-then}
use Rattle.phone_csv.specs.RecordReports.{WritesRows}
use Rattle.phone_csv.proofs.Progress.{Stands-ended, no_length}
use Rattle.phone_csv.proofs.blocks.take_blocks.Goals as goal

pub returns-then-read-clause-input : goal.returns-then-read-clause-input
returns-then-read-clause-input g c is first start fresh =
    let was = c.blocks-2.invariant.read_bytes in
    (was.0, was.1, rw c.blocks-2.invariant.same_format at (Stands-ended (WritesRows g.A.Answers.gives c.args.pending.now.cutter.format first c.blocks-2.answers) start was.0 c.blocks-2.pending.cutter c.blocks-2.pending.answers.items (g.W.ByteSink.taken c.args.sink.now) (g.W.ByteSink.taken c.blocks-2.sink) (was.2.1 first start fresh)))

pub returns-in_default-clause-input : goal.returns-in_default-clause-input
returns-in_default-clause-input g c is first start fresh =
    let was = c.blocks-2.invariant.read_bytes in
    (was.0, rw c.in_default.ensures.kept was.1, rw c.blocks-2.invariant.same_format at (Stands-ended (WritesRows g.A.Answers.gives c.args.pending.now.cutter.format first c.blocks-2.answers) start was.0 c.blocks-2.pending.cutter c.blocks-2.pending.answers.items (g.W.ByteSink.taken c.args.sink.now) (g.W.ByteSink.taken c.blocks-2.sink) (was.2.1 first start fresh)))

pub returns-then-is_empty-clause-taken : goal.returns-then-is_empty-clause-taken
returns-then-is_empty-clause-taken g c is first start fresh =
    let was = c.blocks-2.invariant.read_bytes in
    let zero : length c.fill.new.self ≡ 0 = search rules in
    let e = no_length c.fill.new.self zero in
    (was.0, rw (e, append-nil was.0) at (Passes-then _ _ _ was.0 c.fill.new.self was.1 c.in-Ok.ensures.passes), was.2.1 first start fresh)

pub blocks-2-preserved : goal.blocks-2-preserved
blocks-2-preserved g c =
    let was = c.blocks-2.invariant.read_bytes in
    let block = c.bytes-in-blocks-2-2.result.now in
    let passed = rw (sym c.bytes-in-blocks-2-2.ensures) at c.in-Ok.ensures.passes in
    record {
      read_bytes = (
        was.0 ++ block,
        Passes-then _ _ _ was.0 block was.1 passed,
        (
          length-append was.0 block ∙ ap₂ (λ m n. m + n) was.2.0 (ap length (c.bytes-in-blocks-2-2.ensures ∙ sym c.bytes-in-blocks-2.ensures)),
          λ first start fresh. rw c.blocks-2.invariant.same_format at (c.in-Ok-take_block.ensures.taken first start was.0 (g.W.ByteSink.taken c.args.sink.now) (rw (sym c.blocks-2.invariant.same_format) at (was.2.1 first start fresh))),
        ),
      );
      partial = c.in-Ok-take_block.ensures.partial;
      same_format = c.in-Ok-take_block.ensures.format ∙ c.blocks-2.invariant.same_format;
      source_faults = c.in-Ok.ensures.no_fault ∙ c.blocks-2.invariant.source_faults;
      sink_faults = omega (arith, c.in-Ok-take_block.ensures.faults, c.blocks-2.invariant.sink_faults);
      short = c.in-Ok-take_block.ensures.short;
    }

pub returns-in-Err-Fault-clause-broken : goal.returns-in-Err-Fault-clause-broken
returns-in-Err-Fault-clause-broken g c first start fresh =
    let was = c.blocks-2.invariant.read_bytes in
    let block = c.bytes-in-blocks-2-2.result.now in
    let passed = rw (sym c.bytes-in-blocks-2-2.ensures) at c.in-Ok.ensures.passes in
    (was.0 ++ block, Passes-then _ _ _ was.0 block was.1 passed, rw c.blocks-2.invariant.same_format at (c.in-Err-Fault.ensures.broken (ap Err c.in-Err-Fault.field-0-is) first start was.0 (g.W.ByteSink.taken c.args.sink.now) (rw (sym c.blocks-2.invariant.same_format) at (was.2.1 first start fresh))))

pub returns-in-Err-Record-clause-refused : goal.returns-in-Err-Record-clause-refused
returns-in-Err-Record-clause-refused g c is first start fresh =
    let was = c.blocks-2.invariant.read_bytes in
    let block = c.bytes-in-blocks-2-2.result.now in
    let passed = rw (sym c.bytes-in-blocks-2-2.ensures) at c.in-Ok.ensures.passes in
    (was.0 ++ block, Passes-then _ _ _ was.0 block was.1 passed, rw c.blocks-2.invariant.same_format at (c.in-Err-Record.ensures.refused (ap Err c.in-Err-Record.field-0-is) first start was.0 (g.W.ByteSink.taken c.args.sink.now) (g.S.ByteSource.to_come c.fill.new.source) (rw (sym c.blocks-2.invariant.same_format) at (was.2.1 first start fresh))))

pub returns-in-Err-Memory-clause-memory : goal.returns-in-Err-Memory-clause-memory
returns-in-Err-Memory-clause-memory g c is first start fresh =
    let was = c.blocks-2.invariant.read_bytes in
    let block = c.bytes-in-blocks-2-2.result.now in
    let passed = rw (sym c.bytes-in-blocks-2-2.ensures) at c.in-Ok.ensures.passes in
    (was.0 ++ block, Passes-then _ _ _ was.0 block was.1 passed, rw c.blocks-2.invariant.same_format at (c.in-Err-Memory.ensures.memory (ap Err c.in-Err-Memory.field-0-is) first start was.0 (g.W.ByteSink.taken c.args.sink.now) (rw (sym c.blocks-2.invariant.same_format) at (was.2.1 first start fresh))))
