use Rattle.std.proofs.Common.{[], ◌∷◌}
use Rattle.phone_matches.proofs.Alone.{alone, may_stand, space_idle, space_loose}
use Rattle.phone_matches.proofs.Told.{same_number}
use Rattle.phone_matches.specs.Numbers.{IsNumberBy}
use Rattle.phone_matches.specs.Spaced.{space, spaced}
use Rattle.phone_matches.proofs.Ones.{matches_same}
use Rattle.phone_matches.proofs.laws.found_between_spaces.Goals as goal

pub returns : goal.returns
returns c db alternates hint l tries t n all some whole reads found =
    matches_same (IsNumberBy db alternates hint l) (spaced t)
    (λ p m k h g. same_number c.one_reading.ensures db hint p.1 m k h.number.read g.number.read) tries (spaced t) all
    (((space, t), n) ∷ []) found
    (alone (IsNumberBy db alternates hint l) space t space_idle whole tries n some
    (record { candidate = may_stand l space t space_loose whole; number = reads }))
