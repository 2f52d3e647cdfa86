use Rattle.std.proofs.Common.{rules, refl}
use Rattle.phone_places.proofs.countries.push_entry.Goals as goal

pub returns : goal.returns
returns c = (record { name = c.in_ok-name.name; id = c.args.id }, search rules, refl, search rules)
