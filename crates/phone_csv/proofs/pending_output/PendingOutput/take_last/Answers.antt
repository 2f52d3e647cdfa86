use Rattle.std.proofs.Common.{rules, ◌≡◌, ◌∙◌, true, false}
use Rattle.csv.specs.Machine.{ends_at_end}
use Rattle.phone_csv.specs.Formats.{state_of}
use Rattle.phone_csv.specs.RecordReports.{WritesRows}
use Rattle.phone_csv.proofs.Progress.{Stands-last, Stands-last-refused, Stands-whole, both_ok}
use Rattle.phone_csv.proofs.pending_output.PendingOutput.take_last.Goals as goal

pub returns-then-not-is_open-clause-taken : goal.returns-then-not-is_open-clause-taken
returns-then-not-is_open-clause-taken g c unquoted first start bytes before after s =
    let e : ends_at_end (state_of c.args.self.now.cutter.place) ≡ false = search rules in
    Stands-whole (WritesRows g.A.Answers.gives c.args.self.now.cutter.format first c.args.answers.now) start bytes c.args.self.now.cutter c.args.self.now.answers.items before after e s

pub returns-clause-taken : goal.returns-clause-taken
returns-clause-taken g c =
    let e : ends_at_end (state_of c.args.self.now.cutter.place) ≡ true = search rules in
    let f = c.in-Ok.ensures in
    let a = c.answer_record.ensures in
    let gives = WritesRows g.A.Answers.gives c.args.self.now.cutter.format in
    both_ok c.answer_record.result a.added a.fields (λ added none unquoted first start bytes before after s.
    rw added.1
    (Stands-last (gives first c.args.answers.now) (gives first c.answer_record.new.answers) start bytes c.args.self.now.cutter c.args.self.now.answers.items added.0 _ before after e unquoted f.fields s
    (rw f.format at (added.2 first))))

pub returns-clause-refused : goal.returns-clause-refused
returns-clause-refused g c is first start bytes before after to_come end s =
    let e : ends_at_end (state_of c.args.self.now.cutter.place) ≡ true = search rules in
    let f = c.in-Ok.ensures in
    let a = c.answer_record.ensures in
    let refused = a.refused is in
    rw (rw is at a.answers_kept, refused.1)
    (Stands-last-refused (WritesRows g.A.Answers.gives c.args.self.now.cutter.format first c.args.answers.now) (g.A.Answers.refuses c.args.answers.now) start bytes c.args.self.now.cutter _ _ before after to_come _
    e f.fields end (a.feeds_before ∙ f.feeds_before) s refused.0)
