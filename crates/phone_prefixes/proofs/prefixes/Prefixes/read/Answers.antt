use Rattle.phone_prefixes.proofs.Taken.{read_refused}
use Rattle.phone_prefixes.proofs.prefixes.Prefixes.read.Goals as goal

pub returns-in-Err-clause-refused : goal.returns-in-Err-clause-refused
returns-in-Err-clause-refused g c = λ other. read_refused (g.S.ByteSource.to_come c.args.source.now) c.in-Err.refusal c.from.result c.from.ensures other
