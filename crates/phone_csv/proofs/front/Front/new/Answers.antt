use Rattle.std.proofs.Common.{ap}
use Rattle.phone_csv.specs.Formats.{state_of}
use Rattle.phone_csv.proofs.FirstLemmas.{IsFront-nothing}
use Rattle.phone_csv.proofs.front.Front.new.Goals as goal

pub returns-clause-front : goal.returns-clause-front
returns-clause-front c = IsFront-nothing c.new.result (ap state_of c.new.ensures.place) c.new.ensures.fields c.new.ensures.field c.new.ensures.feeds
