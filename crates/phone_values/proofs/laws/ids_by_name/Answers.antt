use Rattle.std.proofs.Common.{ap, ◌∙◌}
use Rattle.phone_values.specs.Ids.{id_of}
use Rattle.phone_values.proofs.Texts.{name-id_of, id_of-name}
use Rattle.phone_values.proofs.laws.ids_by_name.Goals as goal

pub returns : goal.returns
returns c t i = (name-id_of t i, λ e. ap id_of e ∙ id_of-name i)
