use Rattle.std.proofs.Common.{◌∙◌, ◌≡◌, Some, Bor, ap, map}
use Rattle.phone_plans.specs.CodeLookUps.{if_any, territories}
use Rattle.phone_territory.specs.Records.{id_of}
use Rattle.phone_records.specs.declared.loader.Metadata.{Metadata}
use Rattle.phone_plans.proofs.CodeLemmas.{if_any-map, map-map}
use Rattle.phone_plans.proofs.plans.Plans.region.Goals as goal

pub returns : goal.returns
returns c =
    let now = λ (t : Bor Metadata). t.now in
    let all = territories c.args.code.now c.args.self.now in
    let found : Some (map now c.in-Some.found.items) ≡ if_any all = rw c.in-Some.is at c.in_ok-found.ensures in
    let ids = c.in_ok-ids.ensures ∙ ap (map (λ (t : Bor Metadata). id_of t.now)) c.as_slice.ensures.value ∙ map-map id_of now c.in-Some.found.items in
    ap Some ids ∙ if_any-map id_of (map now c.in-Some.found.items) all found
