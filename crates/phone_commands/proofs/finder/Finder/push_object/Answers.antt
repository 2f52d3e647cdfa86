use Rattle.std.proofs.Common.{[], ◌∷◌, ◌++◌, string_bytes, ap, ◌∙◌}
use Rattle.std.proofs.lemmas.Result.{on_ok_weaker}
use Rattle.phone_commands.specs.FoundLines.IsTold.{object}
use Rattle.phone_commands.proofs.finder.Finder.push_object.Goals as goal

pub returns-in-Ok : goal.returns-in-Ok
returns-in-Ok c =
    let text = string_bytes c.in-Ok.object in
    let items = c.args.answers.now.items in
    on_ok_weaker c.push_line.result
    (λ e. (
      text ++ 10 ∷ [],
      object text c.in-Ok.ensures.object,
      e ∙ ap (λ t. items ++ (t ++ 10 ∷ [])) c.as_str.ensures.value,
    ))
    c.push_line.ensures
