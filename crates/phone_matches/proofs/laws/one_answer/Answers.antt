use Rattle.phone_matches.proofs.Told.{same_number}
use Rattle.phone_matches.specs.Numbers.{IsNumberBy}
use Rattle.phone_matches.proofs.Ones.{matches_same}
use Rattle.phone_matches.proofs.laws.one_answer.Goals as goal

pub returns : goal.returns
returns c db alternates hint l tries text a b =
    matches_same (IsNumberBy db alternates hint l) text (λ p m n h g. same_number c.one_reading.ensures db hint p.1 m n h.number.read g.number.read) tries text a b
