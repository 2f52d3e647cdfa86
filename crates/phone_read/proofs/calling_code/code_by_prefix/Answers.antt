use Rattle.std.proofs.Common.{ap, ◌∙◌}
use Rattle.phone_values.specs.declared.country.Source.TheVariants.{Plus}
use Rattle.phone_read.specs.CallingCodes.{with_three}
use Rattle.phone_read.proofs.calling_code.code_by_prefix.Goals as goal

pub returns : goal.returns
returns c =
    ap (with_three c.args.digits.now) (c.listed_number.ensures c.args.digits.now)
    ∙ c.unless_too_short.ensures.found (λ code. record { source = Plus; value = code; rest = c.args.digits.now })
