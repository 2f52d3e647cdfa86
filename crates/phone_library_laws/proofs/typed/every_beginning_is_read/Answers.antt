use Rattle.std.proofs.Common.{◌∷◌}
use Rattle.phone_typed.specs.Typed.{typed}
use Rattle.phone_library_laws.proofs.ReadAlike.{read_alike}
use Rattle.phone_library_laws.proofs.typed.every_beginning_is_read.Goals as goal

pub returns-clause-signed : goal.returns-clause-signed
returns-clause-signed c db hint other digits all some le =
    read_alike db other (43 ∷ digits) (typed db hint (43 ∷ digits)) (c.shown_is_written_as_keys.ensures.signed db hint digits all some le)

pub returns-clause-unsigned : goal.returns-clause-unsigned
returns-clause-unsigned c db hint other digits all some le =
    read_alike db other digits (typed db hint digits) (c.shown_is_written_as_keys.ensures.unsigned db hint digits all some le)
