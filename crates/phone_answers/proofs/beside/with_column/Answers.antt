use Rattle.std.proofs.Common.{◌∙◌, ap, refl}
use Rattle.std.proofs.lemmas.Result.{IfOk-weaker}
use Rattle.std.specs.Cow.{cow_str_bytes}
use Rattle.serde_json.specs.Data.{put, string}
use Rattle.serde_json.specs.View.{members_view}
use Rattle.phone_answers.proofs.beside.with_column.Goals as goal

pub returns : goal.returns
returns c =
    let ms = members_view c.args.members.entries in
    IfOk-weaker c.with_text.result _ _
    (λ m e. (cow_str_bytes c.in_ok-text.text, c.in_ok-text.ensures, e ∙ ap (λ t. put c.args.column.now.heading.now (string t) ms) c.as_str.ensures.value))
    (c.with_text.ensures ms refl)
