use Rattle.phone_c_questions.proofs.OneOwnAnswers
use Rattle.phone_c_questions.proofs.own_laws.one_answer.Goals as goal

pub returns-clause-mobile : goal.returns-clause-mobile
returns-clause-mobile c db = OneOwnAnswers.one_mobile db

pub returns-clause-reach : goal.returns-clause-reach
returns-clause-reach c db = OneOwnAnswers.one_reach db

pub returns-clause-cost : goal.returns-clause-cost
returns-clause-cost c db = OneOwnAnswers.one_cost db

pub returns-clause-possibility : goal.returns-clause-possibility
returns-clause-possibility c db = OneOwnAnswers.one_possibility db

pub returns-clause-alike : goal.returns-clause-alike
returns-clause-alike c = OneOwnAnswers.one_alike
