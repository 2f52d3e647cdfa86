use Rattle.std.proofs.Common.{rules}
use Rattle.phone_read.proofs.stripping.national_number.Goals as goal

pub returns-clause-lent : goal.returns-clause-lent
returns-clause-lent c lent = record {
  national = λ same. search rules;
  prefix = λ none other. search rules;
  carrier = search rules;
}
