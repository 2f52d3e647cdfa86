use Rattle.std.proofs.Common.{Some, None, sym, ◌∙◌}
use Rattle.std.proofs.lemmas.Result.{IfOk-weaker}
use Rattle.std.specs.Option.{option_copied}
use Rattle.phone_places.specs.Descriptions.{IsDescribed}
use Rattle.phone_places.specs.Descriptions.IsDescribed.{nowhere, somewhere}
use Rattle.phone_places.proofs.descriptions.valid_description.Goals as goal

pub returns-in-Some : goal.returns-in-Some
returns-in-Some c =
    let at = sym c.in_ok-region.ensures ∙ c.in-Some.is in
    IfOk-weaker c.described_in.result _ (λ t. IsDescribed c.args.database.now c.args.atlas.now (option_copied c.args.user) c.args.number.now t.now)
    (λ t h. somewhere c.in-Some.region t.now at h) c.described_in.ensures

pub returns-in-None : goal.returns-in-None
returns-in-None c = nowhere (sym c.in_ok-region.ensures ∙ c.in-None.is)
