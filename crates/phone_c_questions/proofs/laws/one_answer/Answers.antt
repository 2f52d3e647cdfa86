use Rattle.phone_c_questions.proofs.OneAnswers
use Rattle.phone_c_questions.proofs.laws.one_answer.Goals as goal

pub returns-clause-facts : goal.returns-clause-facts
returns-clause-facts c db = OneAnswers.one_facts db

pub returns-clause-validity : goal.returns-clause-validity
returns-clause-validity c db = OneAnswers.one_validity db

pub returns-clause-possibility : goal.returns-clause-possibility
returns-clause-possibility c db = OneAnswers.one_possibility db

pub returns-clause-left : goal.returns-clause-left
returns-clause-left c = OneAnswers.one_left

pub returns-clause-alike : goal.returns-clause-alike
returns-clause-alike c = OneAnswers.one_alike

pub returns-clause-national : goal.returns-clause-national
returns-clause-national c = OneAnswers.one_national
