use Rattle.std.proofs.Common.{◌++◌, not, ap, refl, ◌∙◌}
use Rattle.csv.specs.Records.{fields_of}
use Rattle.phone_table.specs.Counts.{counts_after, counts_without}
use Rattle.phone_answers.specs.Spelled.{number_in, spelled}
use Rattle.phone_table.specs.Taking.Takes.{written, left_out}
use Rattle.phone_table.proofs.Numbers.{same_ok}
use Rattle.phone_table.proofs.table.TableAnswers.answer.Goals as goal

pub returns-clause-answered : goal.returns-clause-answered
returns-clause-answered c e =
    let fields = fields_of c.args.fields.now in
    let (told, are, is) = c.in-Ok-push_row.ensures in
    let own = spelled c.in-Ok-answer_or_refusal.answer in
    let new = same_ok _ _ e in
    let k = c.in-Ok-is_new.ensures.keeps in (
      told ++ own,
      written (number_in c.in-Ok-answer_or_refusal.answer) (told ++ own) (c.in-Ok.under, told, own, c.in-Ok.ensures, c.in-Ok-answer_or_refusal.ensures.answer, are, refl) (c.in-Ok-is_new.ensures.new ∙ ap not new)
          (record { engine = k.engine; asked = k.asked; columns = k.columns; keys = k.keys })
          (rw is at (c.count.ensures.written new) ∙ ap (λ n. counts_after n (fields ++ (told ++ own))) c.in-Ok-is_new.ensures.counts)
          (rw (is, c.in-Ok-is_new.ensures.unknown, k.columns) at c.in-Ok-note_unknown.ensures)
          (rw (is, c.in-Ok-is_new.ensures.summary, k.asked) at c.in-Ok-sum_row.ensures),
      is,
    )

pub returns-clause-left_out : goal.returns-clause-left_out
returns-clause-left_out c e =
    let fields = fields_of c.args.fields.now in
    let (told, are, is) = c.in-Ok-push_row.ensures in
    let own = spelled c.in-Ok-answer_or_refusal.answer in
    let known = same_ok _ _ e in
    let k = c.in-Ok-is_new.ensures.keeps in
    left_out (number_in c.in-Ok-answer_or_refusal.answer) (told ++ own) (c.in-Ok.under, told, own, c.in-Ok.ensures, c.in-Ok-answer_or_refusal.ensures.answer, are, refl) (c.in-Ok-is_new.ensures.new ∙ ap not known)
    (record { engine = k.engine; asked = k.asked; columns = k.columns; keys = k.keys })
    (rw is at (c.count.ensures.left_out known) ∙ ap (λ n. counts_without n (fields ++ (told ++ own))) c.in-Ok-is_new.ensures.counts)
    (rw (is, c.in-Ok-is_new.ensures.unknown, k.columns) at c.in-Ok-note_unknown.ensures)
    (rw (is, c.in-Ok-is_new.ensures.summary, k.asked) at c.in-Ok-sum_row.ensures)
