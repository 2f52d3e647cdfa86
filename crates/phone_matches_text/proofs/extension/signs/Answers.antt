use Rattle.std.proofs.Common.{refl}
use Rattle.std.specs.Str.{chars}
use Rattle.phone_matches_text.proofs.extension.signs.Goals as goal

pub returns : goal.returns
unfolding chars
returns c = refl
