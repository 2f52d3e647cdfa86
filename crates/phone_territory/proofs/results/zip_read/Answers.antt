use Rattle.phone_territory.proofs.Refused.{both-read}
use Rattle.phone_territory.proofs.results.zip_read.Goals as goal

pub returns-clause-read : goal.returns-clause-read
returns-clause-read g c ps qs p q = both-read ps qs c.args.first c.args.second c.zip.result c.zip.ensures.made c.zip.ensures.first_refused p q
