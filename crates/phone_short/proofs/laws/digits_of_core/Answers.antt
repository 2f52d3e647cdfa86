use Rattle.phone_short.proofs.Cores.{core_digits, core_within, no_core_digits}
use Rattle.phone_short.proofs.laws.digits_of_core.Goals as goal

pub returns-clause-digits : goal.returns-clause-digits
returns-clause-digits c = core_digits

pub returns-clause-within : goal.returns-clause-within
returns-clause-within c = core_within

pub returns-clause-none : goal.returns-clause-none
returns-clause-none c = no_core_digits
