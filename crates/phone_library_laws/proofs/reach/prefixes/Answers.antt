use Rattle.phone_library_laws.proofs.Prefixes.{announced_by_sign, announced_by_word}
use Rattle.phone_library_laws.proofs.reach.prefixes.Goals as goal

pub returns-clause-words : goal.returns-clause-words
returns-clause-words c w e h digits few = announced_by_word w e h digits few

pub returns-clause-signs : goal.returns-clause-signs
returns-clause-signs c w e h digits few = announced_by_sign w e h digits few
