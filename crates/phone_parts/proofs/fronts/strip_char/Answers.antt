use Rattle.std.proofs.Common.{◌==◌}
use Rattle.std.specs.Str.Pattern.{FindsCharPrefix}
use Rattle.phone_parts.proofs.Patterns.{one_char, strip-begins, stripped_char}
use Rattle.phone_parts.proofs.fronts.strip_char.Goals as goal

pub returns-clause-read : goal.returns-clause-read
returns-clause-read c =
    let text = c.args.text.now in
    stripped_char c.args.c text c.strip_prefix.result
    (strip-begins (λ d. d == c.args.c) (FindsCharPrefix c.args.c) (one_char c.args.c) text c.strip_prefix.result c.utf8.text c.strip_prefix.ensures.cases)
