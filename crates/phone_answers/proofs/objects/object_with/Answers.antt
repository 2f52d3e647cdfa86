use Rattle.std.proofs.Common.{◌≡◌, ◌∙◌, ap}
use Rattle.std.proofs.lemmas.Result.{IfOk-at_ok}
use Rattle.serde_json.specs.Data.{object}
use Rattle.serde_json.specs.View.{members_view}
use Rattle.serde_json.proofs.Views.{view-Object}
use Rattle.phone_answers.proofs.objects.object_with.Goals as goal

pub returns : goal.returns
returns c ms h = view-Object c.in_ok-members.field-0 ∙ ap object (IfOk-at_ok (λ m. members_view m.entries ≡ ms) c.in_ok-members.was h)
