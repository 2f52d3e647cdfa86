use Rattle.phone_answers.proofs.extra.text_of.Goals as goal

pub returns-in-Some : goal.returns-in-Some
returns-in-Some c = rw c.in-Some.is c.longest_text.ensures
