use Rattle.std.proofs.Common.{◌++◌, ap, ◌∙◌}
use Rattle.std.proofs.lemmas.Result.{on_ok_weaker}
use Rattle.std.specs.Option.{option_to_list}
use Rattle.phone_csv.specs.Formats.{record_text}
use Rattle.phone_commands.specs.FoundLines.{name_told, records}
use Rattle.phone_commands.specs.FoundLines.IsTold.{row}
use Rattle.phone_commands.proofs.finder.Finder.push_record.Goals as goal

pub returns-in-Ok : goal.returns-in-Ok
returns-in-Ok c =
    let self = c.args.self.now in
    let name = option_to_list (name_told self.names.now self.begun) in
    let items = c.args.answers.now.items in
    let found = c.in-Ok.ensures.fields in
    let named = c.in_ok-record.ensures.fields ∙ ap option_to_list c.name.ensures in
    on_ok_weaker c.add_record.result
    (λ e. (
      record_text records (name ++ found.0),
      row found.0 found.1,
      e ∙ ap (λ fields. items ++ record_text records fields)
          (found.2 ∙ ap (λ fields. fields ++ found.0) named),
    ))
    c.add_record.ensures.added
