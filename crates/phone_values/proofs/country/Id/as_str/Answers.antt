use Rattle.std.proofs.Common.{◌∙◌}
use Rattle.phone_values.proofs.Names.{name_at_tag}
use Rattle.phone_values.proofs.country.Id.as_str.Goals as goal

pub returns : goal.returns
returns c = c.name_at.ensures ∙ name_at_tag c.args.self.now
