use Rattle.phone_laws.proofs.Fits.{of_its_kind, of_its_region}
use Rattle.phone_laws.proofs.examples.example_is_of_its_kind.Goals as goal

pub returns-clause-kind : goal.returns-clause-kind
returns-clause-kind c db region m k n f h = of_its_kind db region m k f n h

pub returns-clause-region : goal.returns-clause-region
returns-clause-region c db region m k n f h = of_its_region db region m k f n h
