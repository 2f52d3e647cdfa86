use Rattle.phone_table.proofs.OneRows.{answer_same, hint_same, own_same}
use Rattle.phone_table.proofs.laws.one_row.Goals as goal

pub returns-clause-under : goal.returns-clause-under
returns-clause-under c = hint_same

pub returns-clause-own : goal.returns-clause-own
returns-clause-own c = own_same

pub returns-clause-whole : goal.returns-clause-whole
returns-clause-whole c rules db hint columns asked fields = answer_same rules db columns asked fields hint
