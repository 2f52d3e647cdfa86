use Rattle.phone_answers.proofs.extra.text_of_code.Goals as goal

pub returns : goal.returns
returns c = rw c.format-digits.ensures.text at c.text_of.ensures
