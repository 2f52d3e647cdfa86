use Rattle.std.proofs.Common.{◌∙◌}
use Rattle.phone_pattern.proofs.Matches.{find-first_span}
use Rattle.phone_pattern.proofs.uncached.first_span.Goals as goal

pub returns-in-Some-clause-span : goal.returns-in-Some-clause-span
returns-in-Some-clause-span c =
    rw c.span_of.ensures.span
    (rw c.in_ok-matcher.ensures.pattern at c.in-Some.ensures.found
    ∙ find-first_span c.args.re.now c.requires.0 c.requires.1 c.args.text.now (λ k. (c.type_inv.text k).fits))

pub returns-clause-span : goal.returns-clause-span
returns-clause-span c =
    rw c.in_ok-matcher.ensures.pattern at c.in-None.ensures.found
    ∙ find-first_span c.args.re.now c.requires.0 c.requires.1 c.args.text.now (λ k. (c.type_inv.text k).fits)
