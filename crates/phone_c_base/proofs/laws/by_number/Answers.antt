use Rattle.phone_c_base.proofs.ByNumber.{kind_back, no_kind, one_leniency, one_of_rules, two_bytes}
use Rattle.phone_c_base.proofs.laws.by_number.Goals as goal

pub returns-clause-rules : goal.returns-clause-rules
returns-clause-rules c = one_of_rules

pub returns-clause-leniency : goal.returns-clause-leniency
returns-clause-leniency c = one_leniency

pub returns-clause-kind : goal.returns-clause-kind
returns-clause-kind c = kind_back

pub returns-clause-no_kind : goal.returns-clause-no_kind
returns-clause-no_kind c = no_kind

pub returns-clause-region : goal.returns-clause-region
returns-clause-region c = two_bytes
