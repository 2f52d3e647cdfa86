use Rattle.std.proofs.Common.{rules, ◌≡◌, ◌+◌, ◌++◌, [], Err, length, length-append, arith, inl, inr, refl, ap, ◌∙◌}
use Rattle.std.proofs.lemmas.List.{append-nil, nil_from_length}
use Rattle.phone_device.proofs.PassingLemmas.{IsAtEnd-after, Passes-nothing, Passes-then}
use Rattle.phone_lines.specs.TakenEnds.EndsBy.{output_failed}
use Rattle.phone_lines.proofs.Ends.{input_held, memory_held, whole_held}
use Rattle.phone_lines.proofs.Progress.{Holds-on}
use Rattle.phone_lines.proofs.TakenProgress.{IsTakenSoFar-first}
use Rattle.phone_lines.proofs.blocks.take_blocks.Goals as goal

pub blocks-2-init : goal.blocks-2-init
blocks-2-init g c = record {
  bytes = [];
  counted = refl;
  passed = Passes-nothing _;
  on = λ first before s. s;
  no_source_fault = refl;
  no_sink_fault = refl;
  short = c.requires;
}

pub returns-then-read-clause-halts : goal.returns-then-read-clause-halts
returns-then-read-clause-halts g c first before unflushed s =
    let l = c.blocks-2.invariant in
    input_held _ _ first _ _ l.bytes _ _ l.passed l.no_sink_fault _ (inr (l.counted ∙ c.if-read.true)) (l.on first before s)

pub returns-in_default-clause-halts : goal.returns-in_default-clause-halts
returns-in_default-clause-halts g c first before unflushed s =
    let l = c.blocks-2.invariant in
    let fault = c.in_default.ensures.fault ∙ ap (λ n. n + 1) l.no_source_fault in
    input_held _ _ first _ _ l.bytes _ _ (rw c.in_default.ensures.kept l.passed) l.no_sink_fault _ (inl fault) (l.on first before s)

pub returns-in-Ok-take_last-clause-halts : goal.returns-in-Ok-take_last-clause-halts
returns-in-Ok-take_last-clause-halts g c first before unflushed s =
    let l = c.blocks-2.invariant in
    let zero : length c.fill.new.self ≡ 0 = search rules in
    let e = nil_from_length c.fill.new.self zero in
    let read = rw (e, append-nil l.bytes) at (Passes-then _ _ _ l.bytes c.fill.new.self l.passed c.in-Ok.ensures.passes) in
    let end = IsAtEnd-after _ _ (rw e at c.in-Ok.ensures.passes) (c.in-Ok.ensures.end e (omega arith)) in
    whole_held _ _ first _ _ l.bytes _ _ read l.no_sink_fault end (c.in-Ok.ensures.no_fault ∙ l.no_source_fault)
    (c.in-Ok-take_last.ensures.taken first l.bytes _ _ (l.on first before s))

pub returns-in-Err-clause-halts : goal.returns-in-Err-clause-halts
returns-in-Err-clause-halts g c first before unflushed s =
    let l = c.blocks-2.invariant in
    let zero : length c.fill.new.self ≡ 0 = search rules in
    let e = nil_from_length c.fill.new.self zero in
    let read = rw (e, append-nil l.bytes) at (Passes-then _ _ _ l.bytes c.fill.new.self l.passed c.in-Ok.ensures.passes) in
    memory_held _ _ first _ _ l.bytes _ _ read l.no_sink_fault (c.in-Ok.ensures.no_fault ∙ l.no_source_fault)
    (rw c.in-Err.ensures.kept
    (Holds-on (λ written. IsTakenSoFar-first _ _ first l.bytes [] l.bytes _ _ _ (append-nil l.bytes)) (l.on first before s)))

pub blocks-2-preserved : goal.blocks-2-preserved
blocks-2-preserved g c =
    let l = c.blocks-2.invariant in
    let block = c.bytes-bytes.result.now in
    let read = Passes-then _ _ _ l.bytes block l.passed (rw (← c.bytes-bytes.ensures) at c.in-Ok.ensures.passes) in
    record {
      bytes = l.bytes ++ block;
      counted = length-append l.bytes block ∙ ap (λ m. m + length block) l.counted;
      passed = read;
      on = λ first before s. c.in-Ok-take_block.ensures.taken first l.bytes _ (l.on first before s);
      no_source_fault = c.in-Ok.ensures.no_fault ∙ l.no_source_fault;
      no_sink_fault = omega (arith, c.in-Ok-take_block.ensures.faults, l.no_sink_fault);
      short = c.in-Ok-take_block.ensures.short;
    }

pub returns-in-Err-Fault-clause-broken : goal.returns-in-Err-Fault-clause-broken
returns-in-Err-Fault-clause-broken g c first before unflushed s =
    let l = c.blocks-2.invariant in
    let block = c.bytes-bytes.result.now in
    let fault = rw c.in-Err-Fault.field-0-is at c.in-Err-Fault.ensures.faults in
    output_failed (record {
      bytes = l.bytes ++ block;
      read = Passes-then _ _ _ l.bytes block l.passed (rw (← c.bytes-bytes.ensures) at c.in-Ok.ensures.passes);
      beginning = c.in-Err-Fault.ensures.broken (ap Err c.in-Err-Fault.field-0-is) first l.bytes _ _ (l.on first before s);
      sink_fault = omega (arith, fault, l.no_sink_fault);
    })

pub returns-in-Err-Memory-clause-halts : goal.returns-in-Err-Memory-clause-halts
returns-in-Err-Memory-clause-halts g c first before unflushed s =
    let l = c.blocks-2.invariant in
    let block = c.bytes-bytes.result.now in
    let read = Passes-then _ _ _ l.bytes block l.passed (rw (← c.bytes-bytes.ensures) at c.in-Ok.ensures.passes) in
    let same = rw c.in-Err-Memory.field-0-is at c.in-Err-Memory.ensures.faults in
    memory_held _ _ first _ _ (l.bytes ++ block) _ _ read (omega (arith, same, l.no_sink_fault)) (c.in-Ok.ensures.no_fault ∙ l.no_source_fault)
    (c.in-Err-Memory.ensures.memory (ap Err c.in-Err-Memory.field-0-is) first l.bytes _ (l.on first before s))
