use Rattle.phone_words.proofs.Fronts.{after_is}
use Rattle.phone_words.proofs.rows.after.Goals as goal

pub returns : goal.returns
returns c = after_is _ _ _ c.after_front.ensures.found c.after_front.ensures.none
