use Rattle.std.proofs.Common.{Ok, chars, subst}
use Rattle.phone_library.specs.Readings.{ReadsByLibrary}
use Rattle.phone_laws.proofs.Dialled.{mobile_abroad}
use Rattle.phone_laws.proofs.dialling.read_abroad.Goals as goal

pub returns : goal.returns
returns c db m id hint n r first other valid far settled reads =
    c.told_again.ensures.e164 db hint n r settled
    (subst (λ t. ReadsByLibrary db hint (chars t) (Ok r)) (mobile_abroad db m id n first other valid far) reads)
