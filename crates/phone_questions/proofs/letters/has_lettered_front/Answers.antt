use Rattle.phone_questions.proofs.Lettered.{lettered, lettered_back}
use Rattle.phone_questions.proofs.letters.has_lettered_front.Goals as goal

pub returns : goal.returns
returns c = (
  lettered _ _ _ c.count_letters.result c.split_extension.ensures.read c.count_letters.ensures,
  lettered_back _ _ _ c.count_letters.result c.split_extension.ensures.read c.count_letters.ensures,
)
