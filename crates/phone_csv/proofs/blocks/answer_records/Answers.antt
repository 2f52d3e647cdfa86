use Rattle.std.proofs.Common.{Ok, ap, inl, inr, refl, sym, ◌∙◌}
use Rattle.phone_device.specs.Passing.{Holds, IsAtEnd}
use Rattle.phone_csv.specs.Formats.{state_of}
use Rattle.phone_csv.specs.RecordReports.{IsBeginning, IsReport, IsReportBefore, IsReportOnEnded, IsReportOnFirst, WritesRows, WritesSomeRows}
use Rattle.phone_csv.proofs.AnswerLemmas.{some_rows, writes_nothing}
use Rattle.phone_csv.specs.Runs.{IsFresh, OfRead, TakesA}
use Rattle.phone_csv.proofs.Ends.{by_end, same_feeds, same_line}
use Rattle.phone_csv.proofs.Progress.{BreaksOff-begins, Holds-begins, Holds-out, IsReportBefore-from, Stands-nothing}
use Rattle.phone_csv.proofs.blocks.answer_records.Goals as goal
use Rattle.phone_csv.proofs.blocks.answer_records.Goals.{After-new-pending}

-- nothing was read yet of the output that is made
fresh : (g : _) (c : After-new-pending g) → IsFresh (WritesRows g.A.Answers.gives c.new-pending.result.cutter.format c.args.answers.now c.args.answers.now) (state_of c.args.start.place)
    c.new-pending.result.cutter c.new-pending.result.answers.items (g.W.ByteSink.taken c.args.sink.now)
fresh g c =
    let n = c.new-pending.ensures in
    Stands-nothing (WritesRows g.A.Answers.gives c.new-pending.result.cutter.format c.args.answers.now c.args.answers.now) (writes_nothing g.A.Answers.gives c.new-pending.result.cutter.format c.args.answers.now) (state_of c.args.start.place)
    c.new-pending.result.cutter c.new-pending.result.answers.items (g.W.ByteSink.taken c.args.sink.now) (ap state_of n.place) n.fields n.field n.feeds n.feeds_before n.answers

pub returns-in_default-clause-beginning : goal.returns-in_default-clause-beginning
returns-in_default-clause-beginning g c is =
    let some = WritesSomeRows g.A.Answers.gives c.args.format c.args.answers.now in
    let start = state_of c.args.start.place in
    let b = rw c.new-pending.ensures.format at (c.in_default.ensures.broken c.args.answers.now start (fresh g (goal.at.returns-in_default-clause-beginning g c).After-new-pending)) in
    (b.0, b.1, BreaksOff-begins some c.args.format.delimiter start (g.S.ByteSource.to_come c.take_all.new.source) b.0 _ _ b.2)

pub returns-in_default-write_out-clause-beginning : goal.returns-in_default-write_out-clause-beginning
returns-in_default-write_out-clause-beginning g c is =
    let first = c.args.answers.now in
    let gives = g.A.Answers.gives in
    let writes = WritesRows gives c.args.format first c.take_all.new.answers in
    let some = WritesSomeRows gives c.args.format first in
    let weaker = some_rows gives c.args.format first c.take_all.new.answers in
    let d = c.args.format.delimiter in
    let start = state_of c.args.start.place in
    let nothing = fresh g (goal.at.returns-in_default-write_out-clause-beginning g c).After-new-pending in
    let refuses = g.A.Answers.refuses c.take_all.new.answers in
    let before = g.S.ByteSource.to_come c.args.source.now in
    let after = g.S.ByteSource.to_come c.take_all.new.source in
    let taken = g.W.ByteSink.taken c.args.sink.now in
    let middle = g.W.ByteSink.taken c.take_all.new.sink in
    let held = c.take_all.new.pending.answers.items in
    let front = rw c.as_slice.ensures.value at c.in_default-write_out.ensures.front in
    by_end {A = IsAtEnd after × OfRead before after (λ bytes. Holds (IsReport writes d start bytes) held taken middle)}
    {B = OfRead before after (λ bytes. Holds (IsReportOnEnded writes d start bytes) held taken middle)}
    {C = OfRead before after (λ bytes. Holds (IsReportBefore writes refuses d start 0 c.take_all.new.pending.cutter.feeds_before after bytes) held taken middle)}
    {D = OfRead before after (λ bytes. Holds (IsReportOnFirst some d start bytes) held taken middle)}
    {E = OfRead before after (λ bytes. Holds (IsReportOnEnded writes d start bytes) held taken middle)}
    {Q = OfRead before after (λ bytes. TakesA (IsBeginning some d start after bytes) taken (g.W.ByteSink.taken c.write_out.new.sink))}
    c.in-Ok.end
    (λ e. (c.in-Ok.ensures.end (ap Ok e), rw c.new-pending.ensures.format at (c.in-Ok.ensures.taken (ap Ok e) first start nothing)))
    (λ e. rw c.new-pending.ensures.format at (c.in-Ok.ensures.input (ap Ok e) first start nothing))
    (λ e. rw c.new-pending.ensures.format at (c.in-Ok.ensures.refused (ap Ok e) first start nothing))
    (λ e. rw c.new-pending.ensures.format at (c.in-Ok.ensures.memory (ap Ok e) first start nothing))
    (λ e. let r = rw c.new-pending.ensures.format at (c.in-Ok.ensures.quote (ap Ok e) first start 0 _ refl nothing) in (r.0, r.1, record { written = r.2.written; taken = r.2.taken; text = r.2.text.0 }))
    (λ (end, r). (r.0, r.1, Holds-begins some d start after r.0 held (IsReport writes d start r.0) taken middle _ (λ text (records, all, rows). inr (end, (records, all, weaker records text rows))) r.2 front))
    (λ r. (r.0, r.1, Holds-begins some d start after r.0 held (IsReportOnEnded writes d start r.0) taken middle _ (λ text (records, state, rest, cut, unended, rows). inl (records, state, rest, cut, weaker records text rows)) r.2 front))
    (λ r. (
      r.0,
      r.1,
      Holds-begins some d start after r.0 held (IsReportBefore writes refuses d start 0 c.take_all.new.pending.cutter.feeds_before after r.0) taken middle _
          (λ text (records, state, rest, fields, cut, next, counts, refused, rows). inl (records, state, rest, cut, weaker records text rows)) r.2 front,
    ))
    (λ r. (r.0, r.1, Holds-begins some d start after r.0 held (IsReportOnFirst some d start r.0) taken middle _ (λ text rows. inl rows) r.2 front))
    (λ r. (r.0, r.1, Holds-begins some d start after r.0 held (IsReportOnEnded writes d start r.0) taken middle _ (λ text (records, state, rest, cut, unended, rows). inl (records, state, rest, cut, weaker records text rows)) r.2 front))

pub returns-in-Whole-clause-report : goal.returns-in-Whole-clause-report
returns-in-Whole-clause-report g c =
    let r = rw c.new-pending.ensures.format at (c.in-Ok.ensures.taken (ap Ok c.in-Whole.is) c.args.answers.now (state_of c.args.start.place) (fresh g (goal.at.returns-in-Whole-clause-report g c).After-new-pending)) in
    (r.0, r.1, Holds-out _ c.take_all.new.pending.answers.items _ _ _ r.2 (rw c.as_slice.ensures.value at c.in-Ok-write_out.ensures.all))

pub returns-in-Input-clause-ended : goal.returns-in-Input-clause-ended
returns-in-Input-clause-ended g c is =
    let r = rw c.new-pending.ensures.format at (c.in-Ok.ensures.input (ap Ok c.in-Input.is) c.args.answers.now (state_of c.args.start.place) (fresh g (goal.at.returns-in-Input-clause-ended g c).After-new-pending)) in
    (r.0, r.1, Holds-out _ c.take_all.new.pending.answers.items _ _ _ r.2 (rw c.as_slice.ensures.value at c.in-Ok-write_out.ensures.all))

pub returns-in-Record-clause-before : goal.returns-in-Record-clause-before
returns-in-Record-clause-before g c feeds is =
    let r = rw c.new-pending.ensures.format at (c.in-Ok.ensures.refused (ap Ok c.in-Record.is) c.args.answers.now (state_of c.args.start.place) (fresh g (goal.at.returns-in-Record-clause-before g c).After-new-pending)) in
    let t = Holds-out _ c.take_all.new.pending.answers.items _ _ _ r.2 (rw c.as_slice.ensures.value at c.in-Ok-write_out.ensures.all) in
    let all = sym (same_feeds _ feeds is) ∙ c.saturating_add.ensures in
    let writes = WritesRows g.A.Answers.gives c.args.format c.args.answers.now c.take_all.new.answers in
    let after = g.S.ByteSource.to_come c.take_all.new.source in
    (r.0, r.1, (t.0, IsReportBefore-from writes (g.A.Answers.refuses c.take_all.new.answers) c.args.format.delimiter (state_of c.args.start.place) c.args.start.feeds _ feeds after r.0 t.0 all t.1, t.2))

pub returns-in-Quote-clause-quote : goal.returns-in-Quote-clause-quote
returns-in-Quote-clause-quote g c line is =
    let told = sym (same_line _ line is) ∙ c.line_of_quote.ensures in
    let r = rw c.new-pending.ensures.format at
    (c.in-Ok.ensures.quote (ap Ok c.in-Quote.is) c.args.answers.now (state_of c.args.start.place) c.args.start.feeds line told (fresh g (goal.at.returns-in-Quote-clause-quote g c).After-new-pending)) in
    (r.0, r.1, Holds-out _ c.take_all.new.pending.answers.items _ _ _ r.2 (rw c.as_slice.ensures.value at c.in-Ok-write_out.ensures.all))

pub returns-clause-first : goal.returns-clause-first
returns-clause-first g c is =
    let r = rw c.new-pending.ensures.format at (c.in-Ok.ensures.memory (ap Ok c.in-Memory.is) c.args.answers.now (state_of c.args.start.place) (fresh g (goal.at.returns-clause-first g c).After-new-pending)) in
    (r.0, r.1, Holds-out _ c.take_all.new.pending.answers.items _ _ _ r.2 (rw c.as_slice.ensures.value at c.in-Ok-write_out.ensures.all))
