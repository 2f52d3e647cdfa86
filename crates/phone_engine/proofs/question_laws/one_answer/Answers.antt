use Rattle.phone_engine.proofs.Taken.{answer_same, answer_swap, refused_swap}
use Rattle.phone_engine.proofs.question_laws.one_answer.Goals as goal

pub returns-clause-one : goal.returns-clause-one
returns-clause-one c = answer_same

pub returns-clause-swapped : goal.returns-clause-swapped
returns-clause-swapped c = answer_swap

pub returns-clause-refused : goal.returns-clause-refused
returns-clause-refused c = refused_swap
