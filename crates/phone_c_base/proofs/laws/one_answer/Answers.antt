use Rattle.phone_c_base.proofs.OneAnswers
use Rattle.phone_c_base.proofs.laws.one_answer.Goals as goal

pub returns-clause-number : goal.returns-clause-number
returns-clause-number c = OneAnswers.one_number

pub returns-clause-kind : goal.returns-clause-kind
returns-clause-kind c rules db x = OneAnswers.one_kind x db rules

pub returns-clause-validity : goal.returns-clause-validity
returns-clause-validity c rules db x = OneAnswers.one_validity x db rules

pub returns-clause-region : goal.returns-clause-region
returns-clause-region c rules db x = OneAnswers.one_region x db rules

pub returns-clause-key : goal.returns-clause-key
returns-clause-key c = OneAnswers.one_key

pub returns-clause-text : goal.returns-clause-text
returns-clause-text c rules db x bytes mode = OneAnswers.one_text x bytes db rules mode

pub returns-clause-unknown : goal.returns-clause-unknown
returns-clause-unknown c rules db x bytes mode = OneAnswers.no_other x bytes db rules mode
