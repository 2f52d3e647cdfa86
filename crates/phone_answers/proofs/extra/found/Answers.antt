use Rattle.phone_answers.proofs.extra.found.Goals as goal

pub returns-in-Prefix : goal.returns-in-Prefix
returns-in-Prefix c = rw c.in-Prefix.is (rw c.requires at c.text_of.ensures)
