use Rattle.phone_values.proofs.Digits.{leading_zeros-trimmed}
use Rattle.phone_values.proofs.national_number.split_zeros.Goals as goal

pub returns-clause-count : goal.returns-clause-count
returns-clause-count c = (leading_zeros-trimmed c.args.text.now c.trim_start_matches-rest.result.now c.trim_start_matches-rest.ensures.matches).0

pub returns-clause-rest : goal.returns-clause-rest
returns-clause-rest c = (leading_zeros-trimmed c.args.text.now c.trim_start_matches-rest.result.now c.trim_start_matches-rest.ensures.matches).1
