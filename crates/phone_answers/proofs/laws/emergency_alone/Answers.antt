use Rattle.phone_answers.proofs.ShortLemmas.{field_alone}
use Rattle.phone_answers.proofs.laws.emergency_alone.Goals as goal

pub returns : goal.returns
returns c rules db short region field number answer text alone is h =
    field_alone rules db short region field alone is number answer text h
