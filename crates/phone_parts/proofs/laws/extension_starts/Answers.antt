use Rattle.phone_parts.proofs.Starts.{suffix_begins}
use Rattle.phone_parts.proofs.laws.extension_starts.Goals as goal

pub returns : goal.returns
returns c = suffix_begins
