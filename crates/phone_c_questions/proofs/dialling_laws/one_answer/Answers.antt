use Rattle.phone_c_questions.proofs.OneDialled
use Rattle.phone_c_questions.proofs.OneExamples
use Rattle.phone_c_questions.proofs.dialling_laws.one_answer.Goals as goal

pub returns-clause-text : goal.returns-clause-text
returns-clause-text c = OneDialled.one_text

pub returns-clause-mobile : goal.returns-clause-mobile
returns-clause-mobile c = OneDialled.one_mobile

pub returns-clause-from : goal.returns-clause-from
returns-clause-from c = OneDialled.one_from

pub returns-clause-layouts : goal.returns-clause-layouts
returns-clause-layouts c = OneDialled.one_by_layouts

pub returns-clause-facts : goal.returns-clause-facts
returns-clause-facts c = OneDialled.one_facts

pub returns-clause-example : goal.returns-clause-example
returns-clause-example c = OneDialled.one_example

pub returns-clause-service : goal.returns-clause-service
returns-clause-service c = OneDialled.one_service

pub returns-clause-of_code : goal.returns-clause-of_code
returns-clause-of_code c = OneExamples.one_of_code
