use Rattle.std.proofs.Common.{ap, true}
use Rattle.regex.specs.Patterns.{Config}
use Rattle.phone_pattern.proofs.reading.under_x.Goals as goal

pub returns : goal.returns
returns c =
    ap (λ (config : Config). record config { flags = record config.flags { ignore_whitespace = true } })
    c.default-config.ensures
