use Rattle.std.proofs.Common.{◌==◌}
use Rattle.std.specs.Str.Pattern.{FindsCharPrefix}
use Rattle.phone_parts.proofs.Patterns.{one_char, starts-begins}
use Rattle.phone_parts.proofs.fronts.begins_with.Goals as goal

pub returns : goal.returns
returns c =
    starts-begins (λ d. d == c.args.c) (FindsCharPrefix c.args.c) (one_char c.args.c)
    c.args.text.now c.starts_with.result c.utf8.text c.starts_with.ensures.cases
