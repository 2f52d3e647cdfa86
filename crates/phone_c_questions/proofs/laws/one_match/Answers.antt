use Rattle.phone_c_questions.proofs.OneMatches
use Rattle.phone_c_questions.proofs.laws.one_match.Goals as goal

pub returns-clause-text : goal.returns-clause-text
returns-clause-text c like guessed db = OneMatches.one_text like guessed db

pub returns-clause-texts : goal.returns-clause-texts
returns-clause-texts c like guessed db = OneMatches.one_texts like guessed db
