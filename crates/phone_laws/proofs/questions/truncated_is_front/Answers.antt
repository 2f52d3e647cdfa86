use Rattle.phone_laws.proofs.Fronts.{truncated-front, truncated-valid, truncated-whole}
use Rattle.std.proofs.Common.{arith}
use Rattle.phone_laws.proofs.questions.truncated_is_front.Goals as goal

pub returns-clause-valid : goal.returns-clause-valid
returns-clause-valid c db n t h = truncated-valid db n t h

pub returns-clause-front : goal.returns-clause-front
returns-clause-front c db n t bounded h = truncated-front db n t (omega (arith, bounded.national.1)) h

pub returns-clause-whole : goal.returns-clause-whole
returns-clause-whole c db n h = truncated-whole db n h
