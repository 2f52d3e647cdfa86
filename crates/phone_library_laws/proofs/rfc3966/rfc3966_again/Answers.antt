use Rattle.phone_library_laws.proofs.ReadSigned.{coded_of}
use Rattle.phone_library_laws.proofs.Rfc3966Back.{rfc3966_back, rfc3966_idle}
use Rattle.phone_library_laws.proofs.rfc3966.rfc3966_again.Goals as goal

pub returns-clause-again : goal.returns-clause-again
returns-clause-again c whose db hint n text settled plain e =
    rfc3966_back whose db n (coded_of db n settled) plain hint text e settled.idle

pub returns-clause-exactly : goal.returns-clause-exactly
returns-clause-exactly c whose db hint n text coded plain rules e =
    (rfc3966_idle whose db n coded plain rules hint text e, rfc3966_back whose db n coded plain hint text e)
