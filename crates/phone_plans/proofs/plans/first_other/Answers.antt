use Rattle.std.proofs.Common.{Bor, List, not, rules, tests}
use Rattle.std.proofs.lemmas.Iterator.Consumers.{YieldsList-from_first}
use Rattle.std.proofs.lemmas.Iterator.Search.{find_from_yields_List}
use Rattle.phone_records.specs.declared.loader.Metadata.{Metadata}
use Rattle.phone_plans.proofs.plans.first_other.Goals as goal

pub returns : goal.returns
returns c =
    let test = λ (m : Metadata). not m.main_country_for_code in
    let source = YieldsList-from_first (λ (t : Bor Metadata). t.now) (λ (ms : List Metadata). ms) c.args.all.now c.again.ensures in
    find_from_yields_List test _ _ c.find.result c.find.ensures.ran source (λ x b q k. search (rules, tests))
