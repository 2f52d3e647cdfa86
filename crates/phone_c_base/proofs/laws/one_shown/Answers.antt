use Rattle.phone_c_base.proofs.OneShown
use Rattle.phone_c_base.proofs.laws.one_shown.Goals as goal

pub returns-clause-shown : goal.returns-clause-shown
returns-clause-shown c = OneShown.one_text

pub returns-clause-caret : goal.returns-clause-caret
returns-clause-caret c = OneShown.one_caret

pub returns-clause-short : goal.returns-clause-short
returns-clause-short c = OneShown.one_short
