use Rattle.std.proofs.Common.{[], ◌∷◌}
use Rattle.phone_matches.proofs.Alone.{alone, may_stand, scheme_idle, scheme_loose}
use Rattle.phone_matches.proofs.Told.{same_number}
use Rattle.phone_matches.specs.Numbers.{IsNumberBy}
use Rattle.phone_matches.specs.Spaced.{scheme, linked}
use Rattle.phone_matches.proofs.Ones.{matches_same}
use Rattle.phone_matches.proofs.laws.found_behind_scheme.Goals as goal

pub returns : goal.returns
returns c db alternates hint l tries t n all some whole reads found =
    matches_same (IsNumberBy db alternates hint l) (linked t)
    (λ p m k h g. same_number c.one_reading.ensures db hint p.1 m k h.number.read g.number.read) tries (linked t) all
    (((scheme, t), n) ∷ []) found
    (alone (IsNumberBy db alternates hint l) scheme t scheme_idle whole tries n some
    (record { candidate = may_stand l scheme t scheme_loose whole; number = reads }))
