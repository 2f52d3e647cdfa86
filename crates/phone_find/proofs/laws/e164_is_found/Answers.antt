use Rattle.phone_find.proofs.SettledFound.{settled_found}
use Rattle.phone_find.proofs.laws.e164_is_found.Goals as goal

pub returns : goal.returns
returns c db hint l n before after all settled enough free among found =
    settled_found db hint l n before after all settled enough free among (c.e164_again.ensures db hint n settled) found
