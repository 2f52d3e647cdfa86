use Rattle.std.proofs.Common.{chars, ap, option_map, ◌∙◌}
use Rattle.std.specs.List.{list_any}
use Rattle.phone_chars.specs.Characters.{is_alpha}
use Rattle.phone_parts.specs.Parts.{parts_of}
use Rattle.phone_doubts.proofs.Keys.{no_parts_so, parts_so}
use Rattle.phone_doubts.proofs.letters.has_national_letters.Goals as goal

pub returns-in-Some : goal.returns-in-Some
returns-in-Some c =
    parts_so (chars c.args.text.now) (option_map parts_of c.parts.result) (parts_of c.in-Some.number)
    (ap (λ o. option_map parts_of o) c.in-Some.is) c.parts.ensures.read c.has_letter.result
    (c.has_letter.ensures ∙ ap (λ x. list_any is_alpha (chars x)) c.as_str.ensures.value)

pub returns-in-None : goal.returns-in-None
returns-in-None c =
    no_parts_so (chars c.args.text.now) (option_map parts_of c.parts.result) (ap (λ o. option_map parts_of o) c.in-None.is)
    c.parts.ensures.read
