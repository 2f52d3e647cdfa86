use Rattle.phone_words.proofs.Meanings.{not_both}
use Rattle.phone_words.proofs.laws.not_both.Goals as goal

pub returns : goal.returns
returns c = not_both
