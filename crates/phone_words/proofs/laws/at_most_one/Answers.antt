use Rattle.phone_words.proofs.Meanings.{at_most_one}
use Rattle.phone_words.proofs.laws.at_most_one.Goals as goal

pub returns : goal.returns
returns c = at_most_one
