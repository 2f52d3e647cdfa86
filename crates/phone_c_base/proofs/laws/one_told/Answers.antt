use Rattle.phone_c_base.proofs.OneAnswers.{one_possibility}
use Rattle.phone_c_base.proofs.OneTold
use Rattle.phone_c_base.proofs.laws.one_told.Goals as goal

pub returns-clause-possibility : goal.returns-clause-possibility
returns-clause-possibility c rules db x = one_possibility x db rules

pub returns-clause-text : goal.returns-clause-text
returns-clause-text c rules db = OneTold.one_text_possibility db rules

pub returns-clause-alike : goal.returns-clause-alike
returns-clause-alike c rules db = OneTold.one_alike db rules

pub returns-clause-example : goal.returns-clause-example
returns-clause-example c rules db = OneTold.one_example db rules

pub returns-clause-places : goal.returns-clause-places
returns-clause-places c rules db = OneTold.one_places db rules

pub returns-clause-dialled : goal.returns-clause-dialled
returns-clause-dialled c = OneTold.one_dialled
