use Rattle.phone_doubts.proofs.Parting.{stripped}
use Rattle.phone_doubts.proofs.pairs.behind_word.Goals as goal

pub returns : goal.returns
returns c = stripped c.args.word.now c.args.text.now c.utf8.word c.utf8.text c.strip_prefix.result c.strip_prefix.ensures.cases
