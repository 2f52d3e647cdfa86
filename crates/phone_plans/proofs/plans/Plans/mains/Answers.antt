use Rattle.std.proofs.Common.{◌∙◌, rules, tests}
use Rattle.std.proofs.lemmas.Iterator.Consumers.{map_from_collect}
use Rattle.phone_records.specs.declared.loader.Metadata.{Metadata}
use Rattle.phone_plans.proofs.Chains.{YieldsList-of_code}
use Rattle.phone_plans.proofs.plans.Plans.mains.Goals as goal

pub returns : goal.returns
returns c =
    let test = λ (m : Metadata). m.main_country_for_code in
    map_from_collect c.collect.result c.collect.ensures.ran
    (YieldsList-of_code c.args.code c.args.self.now test (c.filter.ensures.source ∙ c.of_code.ensures) c.filter.ensures.closure (λ x r q k. search (rules, tests)))
