use Rattle.std.proofs.Common.{◌≡◌, ◌∙◌, ap}
use Rattle.std.proofs.lemmas.Result.{IfOk-at_ok}
use Rattle.serde_json.specs.Data.{object}
use Rattle.serde_json.specs.View.{members_view}
use Rattle.serde_json.proofs.Views.{view-Object}
use Rattle.phone_answers.specs.Objects.{members_of, with_told}
use Rattle.phone_answers.specs.Spelled.{number_in, spelled}
use Rattle.phone_answers.proofs.objects.object_of.Goals as goal

pub returns : goal.returns
returns c t h =
    let answer = c.args.subject.answer.now in
    let ms = members_of c.args.engine.rules c.args.engine.database.now c.args.place t (number_in answer) (spelled answer) in
    let made = IfOk-at_ok (λ m. members_view m.entries ≡ ms) c.in_ok-made.was (c.members_of.ensures t h) in
    let told = c.in_ok-members.ensures in
    (told.0, told.1, view-Object c.in_ok-members.members ∙ ap object (told.2 ∙ ap (with_told c.args.extra.now told.0) made))
