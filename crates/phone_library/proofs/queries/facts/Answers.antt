use Rattle.std.proofs.Common.{ap}
use Rattle.phone_library.specs.declared.queries.NumberFacts.{NumberFacts}
use Rattle.phone_read.proofs.Results.{ok_again}
use Rattle.phone_library.proofs.queries.facts.Goals as goal

pub returns-clause-region : goal.returns-clause-region
returns-clause-region c = ok_again c.facts_told.result _ _ (λ f h. ap (λ (f : NumberFacts). f.region) h) c.facts_told.ensures

pub returns-clause-kind : goal.returns-clause-kind
returns-clause-kind c = ok_again c.facts_told.result _ _ (λ f h. ap (λ (f : NumberFacts). f.kind) h) c.facts_told.ensures

pub returns-clause-is_valid : goal.returns-clause-is_valid
returns-clause-is_valid c = ok_again c.facts_told.result _ _ (λ f h. ap (λ (f : NumberFacts). f.is_valid) h) c.facts_told.ensures
