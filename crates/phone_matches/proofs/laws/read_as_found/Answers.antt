use Rattle.std.proofs.Common.{Ok}
use Rattle.phone_library.specs.Readings.{ReadsByLibrary}
use Rattle.phone_matches.proofs.Accepted.{all_accepted, all_weaker}
use Rattle.phone_matches.specs.Numbers.{IsNumberBy}
use Rattle.phone_matches.specs.Searches.{IsAccepted, Matched}
use Rattle.phone_values.specs.declared.reading.Reading.{Reading}
use Rattle.phone_matches.proofs.laws.read_as_found.Goals as goal

pub returns : goal.returns
returns c db alternates hint l tries text all found =
    all_weaker (λ (m : Matched Reading). IsAccepted (IsNumberBy db alternates hint l) text m.0 m.1)
    (λ (m : Matched Reading). ReadsByLibrary db hint m.0.1 (Ok m.1)) all (λ m h. h.number.read)
    (all_accepted (IsNumberBy db alternates hint l) text tries text all found)
