use Rattle.phone_encodings.proofs.UnitLemmas.{alone_tells, alone_unfinished, four_tell}
use Rattle.phone_encodings.proofs.chars.first_of_units.Goals as goal

pub returns-in-len2-up-clause-first : goal.returns-in-len2-up-clause-first
returns-in-len2-up-clause-first c =
    alone_tells _ _ _ _ c.in-len2-up.len_at_least c.unit.ensures c.alone.ensures

pub returns-in-len2-up-clause-unfinished : goal.returns-in-len2-up-clause-unfinished
returns-in-len2-up-clause-unfinished c =
    alone_unfinished _ _ _ _ c.in-len2-up.len_at_least c.in-len2-up.len_below c.unit.ensures
    c.alone.ensures

pub returns-in-len4-up-clause-first : goal.returns-in-len4-up-clause-first
returns-in-len4-up-clause-first c =
    four_tell _ _ _ _ _ c.in-len4-up.len_at_least c.unit-in-len4-up.ensures
    c.unit-in-len4-up-2.ensures c.of_units.ensures
