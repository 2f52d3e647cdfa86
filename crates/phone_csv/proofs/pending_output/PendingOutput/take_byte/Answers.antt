use Rattle.std.proofs.Common.{rules, ◌≡◌, sym, ◌∙◌, true, false}
use Rattle.phone_csv.specs.RecordReports.{WritesRows}
use Rattle.phone_csv.proofs.Progress.{Steps, both_ok, IsSoFar-ended, IsSoFar-grown, IsSoFar-refused}
use Rattle.phone_csv.proofs.pending_output.PendingOutput.take_byte.Goals as goal

pub returns-clause-taken : goal.returns-clause-taken
returns-clause-taken g c =
    let t = c.in-Ok.ensures in
    let e : c.in-Ok.is_ended ≡ true = search rules in
    let on : Steps c.args.self.now.cutter c.take.new.self c.args.byte = record { place = t.place; fields = t.fields; field = t.field; format = t.format; feeds = t.feeds; feeds_before = t.feeds_before; feeds_to_quote = t.feeds_to_quote } in
    let a = c.answer_record.ensures in
    let gives = WritesRows g.A.Answers.gives c.args.self.now.cutter.format in
    both_ok c.answer_record.result a.added a.fields (λ added none first start bytes written s.
    rw added.1
    (IsSoFar-ended (gives first c.args.answers.now) (gives first c.answer_record.new.answers) start bytes c.args.self.now.cutter c.take.new.self c.answer_record.new.self.cutter written
    c.args.self.now.answers.items added.0 c.args.byte s on (sym t.ended ∙ e) (rw t.format at (added.2 first)) (a.format ∙ t.format) a.place none a.field a.feeds))

pub returns-then-not-is_ended-clause-taken : goal.returns-then-not-is_ended-clause-taken
returns-then-not-is_ended-clause-taken g c first start bytes written s =
    let t = c.in-Ok.ensures in
    let e : c.in-Ok.is_ended ≡ false = search rules in
    let on : Steps c.args.self.now.cutter c.take.new.self c.args.byte = record { place = t.place; fields = t.fields; field = t.field; format = t.format; feeds = t.feeds; feeds_before = t.feeds_before; feeds_to_quote = t.feeds_to_quote } in
    IsSoFar-grown (WritesRows g.A.Answers.gives c.args.self.now.cutter.format first c.args.answers.now) start bytes c.args.self.now.cutter c.take.new.self _ c.args.byte s on (sym t.ended ∙ e)

pub returns-clause-refused : goal.returns-clause-refused
returns-clause-refused g c is first start bytes written s to_come more =
    let t = c.in-Ok.ensures in
    let e : c.in-Ok.is_ended ≡ true = search rules in
    let on : Steps c.args.self.now.cutter c.take.new.self c.args.byte = record { place = t.place; fields = t.fields; field = t.field; format = t.format; feeds = t.feeds; feeds_before = t.feeds_before; feeds_to_quote = t.feeds_to_quote } in
    let refused = c.answer_record.ensures.refused is in
    rw refused.1
    (IsSoFar-refused (WritesRows g.A.Answers.gives c.args.self.now.cutter.format first c.args.answers.now) (g.A.Answers.refuses c.args.answers.now) start bytes c.args.self.now.cutter
    c.take.new.self _ c.args.byte s on (sym t.ended ∙ e) refused.0 _ c.answer_record.ensures.feeds_before to_come more)
