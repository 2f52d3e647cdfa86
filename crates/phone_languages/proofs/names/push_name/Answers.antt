use Rattle.std.proofs.Common.{rules, refl}
use Rattle.phone_languages.proofs.names.push_name.Goals as goal

pub returns : goal.returns
returns c = (record { id = c.in_ok-id.id; text = c.in_ok-text.text }, search rules, search rules, search rules)
