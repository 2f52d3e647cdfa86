use Rattle.phone_print.proofs.HyphenTexts.{hyphens_alone, hyphens_apart}
use Rattle.phonenumber.proofs.laws.rfc3966_hyphens.Goals as goal

pub returns-clause-alone : goal.returns-clause-alone
returns-clause-alone c = hyphens_alone

pub returns-clause-apart : goal.returns-clause-apart
returns-clause-apart c = hyphens_apart
