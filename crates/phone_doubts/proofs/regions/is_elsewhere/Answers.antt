use Rattle.std.proofs.Common.{sym, ◌∙◌}
use Rattle.phone_doubts.proofs.Reasons.{region_so}
use Rattle.phone_doubts.proofs.regions.is_elsewhere.Goals as goal

pub returns-in-Some : goal.returns-in-Some
returns-in-Some c =
    let engine = c.args.engine in
    let so = region_so engine.rules engine.database.now c.args.hint c.in-Some.region c.args.number.now
    (sym c.in-Some.is ∙ c.in_ok-region.ensures.region) in
    (λ other. so.0 (c.is_other.ensures.0 other), λ elsewhere. c.is_other.ensures.1 (so.1 elsewhere))
