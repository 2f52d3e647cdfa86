use Rattle.phone_c_base.proofs.TheirWords
use Rattle.phone_c_base.proofs.laws.words.Goals as goal

pub returns-clause-kind : goal.returns-clause-kind
returns-clause-kind c = TheirWords.kind_words

pub returns-clause-source : goal.returns-clause-source
returns-clause-source c = TheirWords.source_words

pub returns-clause-possibility : goal.returns-clause-possibility
returns-clause-possibility c = TheirWords.possibility_words

pub returns-clause-sameness : goal.returns-clause-sameness
returns-clause-sameness c = TheirWords.sameness_words

pub returns-clause-cost : goal.returns-clause-cost
returns-clause-cost c = TheirWords.cost_words

pub returns-clause-refusal : goal.returns-clause-refusal
returns-clause-refusal c = TheirWords.refused_words
