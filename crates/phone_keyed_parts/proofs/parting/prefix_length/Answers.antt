use Rattle.std.proofs.lemmas.Str.{IsCharBoundary-start}
use Rattle.phone_keyed_parts.proofs.parting.prefix_length.Goals as goal

pub returns-in-None-clause-border : goal.returns-in-None-clause-border
returns-in-None-clause-border c = IsCharBoundary-start c.args.digits.now c.utf8.digits
