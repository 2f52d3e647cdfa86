use Rattle.std.proofs.Common.{subst}
use Rattle.regex.specs.Strings.{IsReadFrom}
use Rattle.phone_pattern.proofs.uncached.replace.Goals as goal

pub returns : goal.returns
returns c =
    c.replace_by.ensures c.args.template.now
    (subst (λ names. IsReadFrom names c.args.template.now c.in_ok-template.template) c.capture_names.ensures c.in_ok-template.ensures.read)
