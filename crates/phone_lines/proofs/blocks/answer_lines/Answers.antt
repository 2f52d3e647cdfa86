use Rattle.phone_lines.proofs.ByItself.{Ends-by_itself}
use Rattle.phone_lines.proofs.blocks.answer_lines.Goals as goal

pub returns : goal.returns
returns g c = record { ends = Ends-by_itself _ _ _ _ _ _ c.take_lines.ensures.ends }
