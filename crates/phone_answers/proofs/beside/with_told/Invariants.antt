use Rattle.std.proofs.Common.{drop}
use Rattle.serde_json.specs.View.{members_view}
use Rattle.phone_answers.specs.Spelled.{number_in}
use Rattle.phone_answers.proofs.BesideLemmas.{CompletesMembers}
use Rattle.phone_answers.proofs.beside.with_told.Given as goal

abbrev pub invariant-columns : goal.invariant-columns
invariant-columns l = CompletesMembers l.engine.rules l.engine.database.now l.subject.under l.subject.field.now (number_in l.subject.answer.now) l.extra
    (members_view l.fn.members.entries) (drop l.column-index l.extra) (members_view l.members.entries)
