use Rattle.phone_library_laws.proofs.ReadAgain.{read_again}
use Rattle.phone_library_laws.proofs.WhatIsRead.{settled_if_read}
use Rattle.phone_library_laws.proofs.again.read_twice.Goals as goal

pub returns : goal.returns
returns c db hint other text n rules settled read =
    read_again db n (settled_if_read db hint text n rules settled read) c.plain_written.ensures.international other
