use Rattle.std.proofs.Common.{◌∙◌}
use Rattle.phone_plans.proofs.Indexes.{prefix_free-listed}
use Rattle.phone_plans.proofs.plans.Plans.codes_prefix_free.Goals as goal

pub returns : goal.returns
returns c = c.is_prefix_free.ensures ∙ prefix_free-listed c.codes.result.now c.args.self.now c.codes.ensures
