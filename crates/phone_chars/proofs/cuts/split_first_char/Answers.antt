use Rattle.std.proofs.Common.{◌++◌, encode_utf8, sym, ap, ◌∙◌}
use Rattle.std.proofs.lemmas.Str.{chars_past_char}
use Rattle.phone_chars.proofs.cuts.split_first_char.Goals as goal

pub returns-clause-read : goal.returns-clause-read
returns-clause-read c =
    chars_past_char _ _ _ c.utf8.text
    (sym c.chars-rest.ensures.rest ∙ c.in_ok-c.ensures.steps.0 ∙ ap (λ r. encode_utf8 c.in_ok-c.c ++ r) (sym c.as_str.ensures))
