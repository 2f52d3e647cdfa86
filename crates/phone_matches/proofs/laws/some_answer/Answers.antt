use Rattle.phone_matches.proofs.Decided.{known_piece}
use Rattle.phone_matches.proofs.There.{matches_there}
use Rattle.phone_matches.proofs.Told.{nonempty}
use Rattle.phone_matches.specs.Numbers.{IsNumberBy}
use Rattle.phone_matches.specs.Searches.{behind}
use Rattle.phone_matches.proofs.laws.some_answer.Goals as goal

pub returns : goal.returns
returns c db alternates hint l tries text =
    matches_there (IsNumberBy db alternates hint l) text
    (λ p. known_piece c.one_reading.ensures c.some_reading.ensures db alternates hint l p.0 p.1 (behind text p))
    (λ p n h. nonempty l p.0 p.1 (behind text p) h.candidate) tries
