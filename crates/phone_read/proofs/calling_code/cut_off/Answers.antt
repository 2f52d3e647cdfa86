use Rattle.std.proofs.Common.{rules, inl, refl}
use Rattle.phone_read.proofs.calling_code.cut_off.Goals as goal

pub returns-clause-lent : goal.returns-clause-lent
returns-clause-lent c lent = record {
  kept = record {
    national = λ same. search rules;
    prefix = λ none other. search rules;
    carrier = inl refl;
  };
  has_prefix = λ other. search rules;
}
