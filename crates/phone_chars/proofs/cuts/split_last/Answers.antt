use Rattle.std.proofs.Common.{◌++◌, encode_utf8, IsUtf8, ap, sym, subst, ◌∙◌}
use Rattle.std.specs.Str.{chars}
use Rattle.std.proofs.lemmas.Str.{chars-append}
use Rattle.phone_chars.proofs.Runs.{IsUtf8-after, chars-encode_utf8}
use Rattle.phone_chars.proofs.cuts.split_last.Goals as goal

pub returns-clause-read : goal.returns-clause-read
returns-clause-read c =
    let e = sym c.chars-rest.ensures.rest ∙ c.in_ok-c.ensures.steps ∙ ap (λ r. r ++ encode_utf8 c.in_ok-c.c) (sym c.as_str.ensures) in
    ap chars e ∙ chars-append _ _ c.as_str.utf8
    ∙ ap (λ r. chars c.as_str.result.now ++ r)
    (chars-encode_utf8 _ (IsUtf8-after _ _ (subst IsUtf8 e c.utf8.text) c.as_str.utf8))
