use Rattle.phone_read.proofs.ListedFronts.{more_than_two}
use Rattle.phone_read.proofs.calling_code.unless_too_short.Goals as goal

pub returns-clause-found : goal.returns-clause-found
returns-clause-found c = λ f. more_than_two c.args.digits.now _ c.if-digits-le-MIN_LENGTH_FOR_NSN.false
