use Rattle.std.proofs.Common.{◌++◌, ◌∷◌, [], ap, ap₂, refl, subst, sym, ◌∙◌}
use Rattle.csv.specs.Records.{fields_of}
use Rattle.phone_table.specs.Answered.{key_in}
use Rattle.phone_table.specs.Counts.{counts_after}
use Rattle.phone_table.specs.Held.{answered}
use Rattle.phone_table.specs.Held.Holds.{held}
use Rattle.phone_answers.specs.Spelled.{number_in, spelled}
use Rattle.phone_table.specs.Summed.{SumsRow}
use Rattle.phone_table.specs.Unknowns.{NotesRow}
use Rattle.phone_table.proofs.SharedLemmas.{row_parts}
use Rattle.phone_table.proofs.holder.HolderAnswers.answer.Goals as goal

pub returns-in-Ok-hold-clause-left_out : goal.returns-in-Ok-hold-clause-left_out
returns-in-Ok-hold-clause-left_out c e =
    let fields = fields_of c.args.fields.now in
    let table = c.args.self.now.table in
    let number = number_in c.in-Ok-answer_or_refusal.answer in
    let own = spelled c.in-Ok-answer_or_refusal.answer in
    let (told, are, is) = c.in-Ok-push_row.ensures in
    let same = c.in-Ok-hold.ensures.table in
    let unknown = sym (ap (λ t. t.unknown) same) in
    let summary = sym (ap (λ t. t.summary) same) in
    held number (told ++ own) (c.in-Ok.under, told, own, c.in-Ok.ensures, c.in-Ok-answer_or_refusal.ensures.answer, are, refl)
    (same ∙ ap₂ (λ n u. record table { counts = n; unknown = u; summary = c.sum_row.new.summary }) (rw is at (c.count.ensures.written refl)) unknown
    ∙ ap (λ s. record table { counts = counts_after table.counts (fields ++ (told ++ own)); unknown = c.hold.new.self.table.unknown; summary = s }) summary)
    (subst (λ u. NotesRow table.columns (fields ++ (told ++ own)) table.unknown.names.entries u.names.entries) unknown (rw is at c.in-Ok-note_unknown.ensures))
    (subst (λ s. SumsRow table.asked (fields ++ (told ++ own)) table.summary s) summary (rw is at c.in-Ok-sum_row.ensures))
    (c.in-Ok-hold.ensures.held ∙ ap (λ a. answered c.args.self.now.held.items ++ a ∷ [])
    (row_parts (fields_of c.replace-row.result) fields (told ++ own) c.len-width.result (key_in number) (ap fields_of c.replace-row.ensures.value ∙ is) c.len-width.ensures))
