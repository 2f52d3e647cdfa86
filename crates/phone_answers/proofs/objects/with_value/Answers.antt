use Rattle.std.proofs.Common.{◌≡◌, ◌∙◌, ap₂}
use Rattle.std.proofs.lemmas.Result.{IfOk-at_ok}
use Rattle.serde_json.specs.Data.{put}
use Rattle.serde_json.specs.View.{view, members_view}
use Rattle.phone_answers.proofs.objects.with_value.Goals as goal

pub returns : goal.returns
returns c ms d h k =
    c.in_ok-put.ensures.ok ∙ ap₂ (put c.args.key.now) (IfOk-at_ok (λ v. view v ≡ d) c.in_ok-value.was k) (IfOk-at_ok (λ m. members_view m.entries ≡ ms) c.in_ok-members.was h)
