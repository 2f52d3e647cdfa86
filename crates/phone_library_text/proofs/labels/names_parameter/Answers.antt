use Rattle.std.proofs.Common.{false, codes, sym, ap, ◌∙◌}
use Rattle.std.specs.Option.{option_map_or}
use Rattle.std.specs.Str.{chars}
use Rattle.phone_parts.proofs.Endings.{chars_parameter}
use Rattle.phone_library_text.specs.Scans.{after_alike, is_nil}
use Rattle.phone_library_text.proofs.Alikes.{is_alike-after}
use Rattle.phone_library_text.proofs.labels.names_parameter.Goals as goal

pub returns-in-Some : goal.returns-in-Some
returns-in-Some c =
    let text = chars c.args.text.now in
    c.is_nothing.ensures
    ∙ sym (is_alike-after text (codes ";ext=") ∙ ap (λ o. option_map_or is_nil o false) (ap (after_alike text) (sym chars_parameter) ∙ c.in-Some.ensures.read))

pub returns-in-None : goal.returns-in-None
returns-in-None c =
    let text = chars c.args.text.now in
    sym (is_alike-after text (codes ";ext=") ∙ ap (λ o. option_map_or is_nil o false) (ap (after_alike text) (sym chars_parameter) ∙ c.in-None.ensures.read))
