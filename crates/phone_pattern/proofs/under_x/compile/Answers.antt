use Rattle.std.proofs.Common.{◌≡◌, [], rules, subst}
use Rattle.regex.specs.Strings.{regex_config, regex_source}
use Rattle.phone_pattern.specs.First.{IsPattern, verbose}
use Rattle.phone_pattern.proofs.Matches.{is_pattern}
use Rattle.phone_pattern.proofs.under_x.compile.Goals as goal

pub returns-in-Ok-clause-read : goal.returns-in-Ok-clause-read
returns-in-Ok-clause-read c =
    let source : regex_source c.in-Ok.re ≡ c.args.text = search rules in
    let config : regex_config c.in-Ok.re ≡ verbose = search rules in
    subst IsPattern source (is_pattern c.in-Ok.re config c.in-Ok.ensures.read)

pub returns-in-Err : goal.returns-in-Err
returns-in-Err c = record { compiled = tt; read = tt; refused = ([], [], search rules, tt) }
