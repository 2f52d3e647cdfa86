use Rattle.phone_parts.proofs.OneForm.{suffix_same}
use Rattle.phone_parts.proofs.laws.one_extension.Goals as goal

pub returns : goal.returns
returns c = suffix_same
