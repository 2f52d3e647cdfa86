use Rattle.std.proofs.Common.{unwrap_or, ap, sym, ◌∙◌}
use Rattle.std.specs.Str.{chars}
use Rattle.phone_parts.specs.Texts.{after_like}
use Rattle.phone_parts.proofs.Tels.{chars_tel}
use Rattle.phone_parts.proofs.rfc3966.without_scheme.Goals as goal

pub returns-in-Some-clause-read : goal.returns-in-Some-clause-read
returns-in-Some-clause-read c =
    let text = chars c.args.text.now in
    sym (ap (λ o. unwrap_or o text) (ap (after_like text) (sym chars_tel) ∙ c.in-Some.ensures.read))

pub returns-in-None-clause-read : goal.returns-in-None-clause-read
returns-in-None-clause-read c =
    let text = chars c.args.text.now in
    sym (ap (λ o. unwrap_or o text) (ap (after_like text) (sym chars_tel) ∙ c.in-None.ensures.read))
