use Rattle.std.proofs.Common.{ap, is_ok}
use Rattle.std.proofs.lemmas.Result.{on_ok_weaker}
use Rattle.phone_records.proofs.loader.forms.write.Goals as goal

pub returns : goal.returns
returns g c = on_ok_weaker c.serialize.result (λ h. (ap is_ok c.in_ok-done.was, (_, c.in_ok-key.ensures, h))) c.serialize.ensures
