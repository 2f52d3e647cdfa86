use Rattle.phone_words.proofs.Meanings.{one_or_other}
use Rattle.phone_words.proofs.laws.one_or_other.Goals as goal

pub returns : goal.returns
returns c = one_or_other
