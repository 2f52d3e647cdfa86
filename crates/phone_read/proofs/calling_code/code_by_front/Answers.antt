use Rattle.std.proofs.Common.{ap, drop, length, ◌∙◌}
use Rattle.std.specs.Fmt.{decimal}
use Rattle.phone_parts.specs.Texts.{is_front}
use Rattle.phone_read.specs.CallingCodes.{with_three}
use Rattle.phone_read.proofs.calling_code.code_by_front.Goals as goal

pub returns-clause-code : goal.returns-clause-code
returns-clause-code c = λ source.
    ap (with_three c.args.digits.now) (c.shortest_code.ensures.code source)
    ∙ c.unless_too_short.ensures.found (λ code. record { source = source; value = code; rest = drop (length (decimal code)) c.args.digits.now })

pub returns-clause-front : goal.returns-clause-front
returns-clause-front c = c.unless_too_short.ensures.kept (λ code. is_front (decimal code) c.args.digits.now) c.shortest_code.ensures.front
