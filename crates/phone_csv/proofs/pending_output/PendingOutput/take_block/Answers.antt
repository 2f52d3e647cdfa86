use Rattle.std.proofs.Common.{◌++◌, ◌∷◌, ◌+◌, [], Err, take, drop, slice_index_or, ap, subst, sym, ◌∙◌}
use Rattle.phone_csv.specs.RecordReports.{IsReportBefore, IsReportOnFirst, WritesRows, WritesSomeRows}
use Rattle.phone_device.specs.Passing.{Holds}
use Rattle.phone_csv.specs.Runs.{Stands}
use Rattle.phone_csv.proofs.AnswerLemmas.{some_rows}
use Rattle.phone_csv.proofs.Progress.{Holds-breaks, Stands-advanced, Stands-first, Stands-handed, Stands-holds, at_place, first_weaker, from_place, next_place}
use Rattle.phone_csv.proofs.pending_output.PendingOutput.take_block.Goals as goal

pub returns-in-Err-Record-clause-refused : goal.returns-in-Err-Record-clause-refused
returns-in-Err-Record-clause-refused g c is first start bytes before to_come s =
    let writes = WritesRows g.A.Answers.gives c.args.self.now.cutter.format first in
    let refuses = g.A.Answers.refuses c.take_byte.new.answers in
    let i = c.loop-byte.byte-index in
    let block = c.args.block.now in
    let t = c.in-Err-Record.ensures in
    let same = c.loop-byte.invariant.same_format in
    let d = c.args.self.now.cutter.format.delimiter in
    let stands = c.loop-byte.invariant.on first start bytes before s in
    let feeds = c.take_byte.new.self.cutter.feeds_before in
    let report = IsReportBefore (writes c.take_byte.new.answers) refuses d start 0 feeds to_come (bytes ++ block) in
    rw (t.answers_kept) (Stands-holds (writes c.loop-byte.answers) start (bytes ++ take i block) c.loop-byte.self.cutter c.loop-byte.self.answers.items before (g.W.ByteSink.taken c.loop-byte.sink) report stands
    (λ written far. subst (λ b. IsReportBefore (writes c.take_byte.new.answers) refuses d start 0 feeds to_come b (written ++ c.loop-byte.self.answers.items))
    (from_place bytes block i 0 c.loop-byte-test.true)
    (rw same at (t.refused (ap Err c.in-Err-Record.field-0-is) first start (bytes ++ take i block) written (rw (sym same) at far) to_come (drop (i + 1) block)))))

pub returns-in-Err-Memory-clause-memory : goal.returns-in-Err-Memory-clause-memory
returns-in-Err-Memory-clause-memory g c is first start bytes before s =
    let gives = g.A.Answers.gives in
    let i = c.loop-byte.byte-index in
    let block = c.args.block.now in
    let format = c.args.self.now.cutter.format in
    let taken = g.W.ByteSink.taken c.loop-byte.sink in
    let held = c.loop-byte.self.answers.items in
    let writes = WritesRows gives format first c.loop-byte.answers in
    let on = rw c.loop-byte.invariant.same_format at
    (Stands-first writes start (bytes ++ take i block) (drop i block) c.loop-byte.self.cutter held before taken (c.loop-byte.invariant.on first start bytes before s)) in
    let all = subst (λ t. Holds (IsReportOnFirst writes format.delimiter start t) held before taken) (at_place bytes block i) on in
    rw c.in-Err-Memory.ensures.answers_kept
    (first_weaker writes (WritesSomeRows gives format first) (some_rows gives format first c.loop-byte.answers) format.delimiter start (bytes ++ block) held before taken all)

pub returns-in_default-clause-broken : goal.returns-in_default-clause-broken
returns-in_default-clause-broken g c is first start bytes before s =
    let gives = g.A.Answers.gives in
    let i = c.loop-byte.byte-index in
    let block = c.args.block.now in
    let format = c.args.self.now.cutter.format in
    let d = format.delimiter in
    let x = slice_index_or block i 0 in
    let taken = g.W.ByteSink.taken c.loop-byte.sink in
    let held = c.take_byte.new.self.answers.items in
    let same = c.loop-byte.invariant.same_format in
    let writes = WritesRows gives format first in
    let on = Stands-advanced (writes c.loop-byte.answers) (writes c.take_byte.new.answers) start (bytes ++ take i block) c.loop-byte.self.cutter c.take_byte.new.self.cutter c.loop-byte.self.answers.items held x before taken
    (c.loop-byte.invariant.on first start bytes before s) (λ some written far. rw same at (c.in-Ok.ensures.taken first start some written (rw (sym same) at far))) in
    let place = ap (λ t. t ++ drop (i + 1) block) (next_place bytes block i 0 c.loop-byte-test.true) ∙ at_place bytes block (i + 1) in
    let some = rw (c.in-Ok.ensures.format, c.loop-byte.invariant.same_format) at
    (Stands-first (writes c.take_byte.new.answers) start ((bytes ++ take i block) ++ x ∷ []) (drop (i + 1) block) c.take_byte.new.self.cutter held before taken on) in
    let all = subst (λ t. Holds (IsReportOnFirst (writes c.take_byte.new.answers) d start t) held before taken) place some in
    Holds-breaks (WritesSomeRows gives format first) d start (bytes ++ block) held before taken _
    (first_weaker (writes c.take_byte.new.answers) (WritesSomeRows gives format first) (some_rows gives format first c.take_byte.new.answers) d start (bytes ++ block) held before taken all)
    c.in_default.ensures.front

pub loop-byte-preserved : goal.loop-byte-preserved
loop-byte-preserved g c = record {
  on = λ first start bytes before s.
      let writes = WritesRows g.A.Answers.gives c.args.self.now.cutter.format first in
      let i = c.loop-byte.byte-index in
      let block = c.args.block.now in
      let x = slice_index_or block i 0 in
      let same = c.loop-byte.invariant.same_format in
      let on = Stands-advanced (writes c.loop-byte.answers) (writes c.take_byte.new.answers) start (bytes ++ take i block) c.loop-byte.self.cutter c.take_byte.new.self.cutter c.loop-byte.self.answers.items c.take_byte.new.self.answers.items x before _
      (c.loop-byte.invariant.on first start bytes before s) (λ some written far. rw same at (c.in-Ok.ensures.taken first start some written (rw (sym same) at far))) in
      let handed = c.in-Ok-hand_on.ensures.handed in
      let next = Stands-handed (writes c.take_byte.new.answers) start ((bytes ++ take i block) ++ x ∷ []) c.take_byte.new.self.cutter c.take_byte.new.self.answers.items handed.0
      c.hand_on.new.held.items before (g.W.ByteSink.taken c.loop-byte.sink) (g.W.ByteSink.taken c.hand_on.new.sink) on handed.1 handed.2 in
      subst (λ t. Stands (writes c.take_byte.new.answers) start t c.take_byte.new.self.cutter c.hand_on.new.held.items before (g.W.ByteSink.taken c.hand_on.new.sink))
      (next_place bytes block i 0 c.loop-byte-test.true) next;
  partial = c.in-Ok.ensures.partial;
  same_format = c.in-Ok.ensures.format ∙ c.loop-byte.invariant.same_format;
  same_faults = c.in-Ok-hand_on.ensures.no_fault ∙ c.loop-byte.invariant.same_faults;
  short = c.in-Ok-hand_on.ensures.short;
}
