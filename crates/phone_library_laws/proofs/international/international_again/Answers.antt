use Rattle.phone_library_laws.specs.Printed.{uncarried}
use Rattle.phone_library_laws.proofs.InternationalBack.{international_back, international_idle}
use Rattle.phone_library_laws.proofs.ReadSigned.{coded_of, uncarried_coded}
use Rattle.phone_library_laws.proofs.international.international_again.Goals as goal

pub returns-clause-again : goal.returns-clause-again
returns-clause-again c whose db hint n text settled plain e =
    international_back whose db (uncarried n) (uncarried_coded db n (coded_of db n settled)) plain hint
    text e settled.idle

pub returns-clause-exactly : goal.returns-clause-exactly
returns-clause-exactly c whose db hint n text coded plain rules e = (
  international_idle whose db (uncarried n) (uncarried_coded db n coded) plain rules hint text e,
  international_back whose db (uncarried n) (uncarried_coded db n coded) plain hint text e,
)
