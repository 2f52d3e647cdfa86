use Rattle.std.proofs.Common.{[], ◌∷◌, ◌++◌, ℕ, List, Option, ap, ◌∙◌}
use Rattle.std.proofs.lemmas.Result.{on_ok_weaker}
use Rattle.std.specs.Fmt.{decimal}
use Rattle.std.specs.Option.{option_to_list}
use Rattle.phone_commands.specs.FoundLines.{name_told}
use Rattle.phone_commands.specs.FoundLines.IsTold.{fields}
use Rattle.phone_print.specs.Tabbed.{tabbed}
use Rattle.phone_print.specs.Texts.{e164_text}
use Rattle.phone_commands.proofs.finder.Finder.push_fields.Goals as goal

pub returns : goal.returns
returns c =
    let self = c.args.self.now in
    let spot = c.args.spot in
    let items = c.args.answers.now.items in
    let told : Option (List ℕ) → List ℕ = λ name. tabbed (option_to_list name ++
    (decimal spot.line ∷ decimal spot.column ∷ e164_text c.args.number.now ∷ spot.piece.now ∷ []))
    ++ 10 ∷ [] in
    on_ok_weaker c.push_text.result
    (λ e. (
      told (name_told self.names.now self.begun),
      fields,
      e ∙ ap (λ t. items ++ t) (c.as_str.ensures.value ∙ c.in_ok-told.ensures ∙
          ap told c.name.ensures),
    ))
    c.push_text.ensures
