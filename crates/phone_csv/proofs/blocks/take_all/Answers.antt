use Rattle.std.proofs.Common.{rules, ◌≡◌, [], Ok, Err, ap, sym, false, true}
use Rattle.std.proofs.lemmas.List.{append-nil}
use Rattle.phone_csv.specs.Formats.{state_of}
use Rattle.phone_csv.specs.Records.{in_quotes}
use Rattle.phone_csv.specs.RecordReports.{WritesRows, WritesSomeRows}
use Rattle.phone_csv.proofs.AnswerLemmas.{some_rows}
use Rattle.phone_csv.proofs.Progress.{Stands-first, Stands-quote, first_weaker}
use Rattle.phone_csv.proofs.blocks.take_all.Goals as goal

pub returns-in-Ok-clause-taken : goal.returns-in-Ok-clause-taken
returns-in-Ok-clause-taken g c is first start fresh =
    let unquoted : in_quotes (state_of c.take_blocks.new.pending.cutter.place) ≡ false = search rules in
    let t = c.in-Ok-Whole.ensures.taken (ap Ok c.in-Ok-Whole.field-0-is) first start fresh in
    (t.0, t.1, rw c.in-Ok-Whole.ensures.format at (c.in-Ok.ensures.taken unquoted first start t.0 (g.W.ByteSink.taken c.args.sink.now) (g.W.ByteSink.taken c.take_blocks.new.sink) (rw (sym c.in-Ok-Whole.ensures.format) at t.2)))

pub returns-in-Err-Record-clause-refused : goal.returns-in-Err-Record-clause-refused
returns-in-Err-Record-clause-refused g c is first start fresh =
    let t = c.in-Ok-Whole.ensures.taken (ap Ok c.in-Ok-Whole.field-0-is) first start fresh in
    let end = c.in-Ok-Whole.ensures.end (ap Ok c.in-Ok-Whole.field-0-is) in (
      t.0,
      t.1,
      rw c.in-Ok-Whole.ensures.format at (c.in-Err-Record.ensures.refused (ap Err c.in-Err-Record.field-0-is) first start t.0
          (g.W.ByteSink.taken c.args.sink.now) (g.W.ByteSink.taken c.take_blocks.new.sink) (g.S.ByteSource.to_come c.take_blocks.new.source) end (rw (sym c.in-Ok-Whole.ensures.format) at t.2)),
    )

pub returns-in-Err-Memory-clause-memory : goal.returns-in-Err-Memory-clause-memory
returns-in-Err-Memory-clause-memory g c is first start fresh =
    let t = c.in-Ok-Whole.ensures.taken (ap Ok c.in-Ok-Whole.field-0-is) first start fresh in
    let writes = WritesRows g.A.Answers.gives c.args.pending.now.cutter.format first c.take_blocks.new.answers in
    let before = g.W.ByteSink.taken c.args.sink.now in
    let after = g.W.ByteSink.taken c.take_blocks.new.sink in (
      t.0,
      t.1,
      rw c.in-Err-Memory.ensures.kept
          (first_weaker writes (WritesSomeRows g.A.Answers.gives c.args.pending.now.cutter.format first) (some_rows g.A.Answers.gives c.args.pending.now.cutter.format first c.take_blocks.new.answers)
          c.args.pending.now.cutter.format.delimiter start t.0 c.take_blocks.new.pending.answers.items before after
          (rw (append-nil t.0, c.in-Ok-Whole.ensures.format) at (Stands-first writes start t.0 [] c.take_blocks.new.pending.cutter c.take_blocks.new.pending.answers.items before after t.2))),
    )

pub returns-then-in_quotes-clause-quote : goal.returns-then-in_quotes-clause-quote
returns-then-in_quotes-clause-quote g c is first start earlier line told fresh =
    let opened : in_quotes (state_of c.take_blocks.new.pending.cutter.place) ≡ true = search rules in
    let t = c.in-Ok-Whole.ensures.taken (ap Ok c.in-Ok-Whole.field-0-is) first start fresh in
    let writes = WritesRows g.A.Answers.gives c.args.pending.now.cutter.format first c.take_blocks.new.answers in
    let before = g.W.ByteSink.taken c.args.sink.now in
    let after = g.W.ByteSink.taken c.take_blocks.new.sink in
    (t.0, t.1, rw c.in-Ok-Whole.ensures.format at (Stands-quote writes start t.0 c.take_blocks.new.pending.cutter c.take_blocks.new.pending.answers.items before after earlier line opened told t.2))
