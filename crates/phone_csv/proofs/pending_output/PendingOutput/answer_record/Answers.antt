use Rattle.std.proofs.Common.{◌≡◌, ◌++◌, [], Result, Ok, Err, OnOk, refl, sym, ap, ◌∙◌, rules, true, false}
use Rattle.std.proofs.lemmas.List.{append-nil}
use Rattle.csv.specs.Records.{fields_of}
use Rattle.phone_csv.specs.Formats.{record_text}
use Rattle.phone_csv.proofs.AnswerLemmas.{adds_nothing, adds_row}
use Rattle.phone_csv.proofs.pending_output.PendingOutput.answer_record.Goals as goal

pub returns-then-not-is_written-clause-added : goal.returns-then-not-is_written-clause-added
returns-then-not-is_written-clause-added g c =
    let fields = fields_of c.args.self.now.cutter.fields in (
      [],
      sym (append-nil c.args.self.now.answers.items),
      λ first. adds_nothing g.A.Answers.gives c.args.self.now.cutter.format first c.args.answers.now c.answer.new.self fields (c.in_ok-is_written.ensures.left_out (search rules)),
    )

pub returns-clause-added : goal.returns-clause-added
returns-clause-added g c =
    let fields = fields_of c.args.self.now.cutter.fields in
    let given = c.in_ok-is_written.ensures.answered (search rules) in
    let d = c.args.self.now.cutter.format in (
      record_text d (fields ++ given.0),
      rw given.2 at c.in-Ok.ensures.written,
      λ first. adds_row g.A.Answers.gives d first c.args.answers.now c.answer.new.self fields given.0 given.1,
    )
