use Rattle.std.proofs.Common.{◌∙◌, sym}
use Rattle.phone_values.specs.Ids.{id_of}
use Rattle.phone_values.proofs.country.IdFromStr.from_str.Goals as goal

pub returns : goal.returns
unfolding id_of
returns c = sym c.ok_or.ensures.ok_part ∙ c.find_id.ensures
