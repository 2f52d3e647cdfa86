use Rattle.std.proofs.Common.{rules}
use Rattle.std.proofs.lemmas.Result.{on_ok_weaker}
use Rattle.phone_table.specs.Unknowns.NotesRow.{known, no_text, noted}
use Rattle.phone_table.proofs.unknown.note_unknown.Goals as goal

pub returns-then-not-has_refusal : goal.returns-then-not-has_refusal
returns-then-not-has_refusal c = known (search rules)

pub returns-in-Some : goal.returns-in-Some
returns-in-Some c = on_ok_weaker c.note.result (λ h. noted c.in-Some.text.now _ (search rules) c.in-Some.ensures h) c.note.ensures

pub returns-in-None : goal.returns-in-None
returns-in-None c = no_text (search rules) c.in-None.ensures
