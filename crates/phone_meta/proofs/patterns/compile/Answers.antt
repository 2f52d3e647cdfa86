use Rattle.std.proofs.Common.{subst, ◌∙◌}
use Rattle.phone_pattern.proofs.Matches.{is_pattern}
use Rattle.phone_territory.specs.First.{IsPattern}
use Rattle.phone_meta.proofs.patterns.compile.Goals as goal

pub returns-clause-read : goal.returns-clause-read
returns-clause-read c =
    let re = c.regex.result.now in
    let under_x = c.regex.ensures.1 in
    ((subst IsPattern (c.regex.ensures.0 ∙ c.in_ok-compiled.ensures.compiled) (is_pattern re under_x.0 under_x.1), tt), tt)
