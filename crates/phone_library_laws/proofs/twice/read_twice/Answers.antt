use Rattle.phone_library_laws.proofs.WhatIsRead.{settled_if_read}
use Rattle.phone_library_laws.specs.Printed.{uncarried}
use Rattle.phone_library_laws.proofs.ExtensionsRead.{extension_read}
use Rattle.phone_library_laws.proofs.InternationalBack.{international_back}
use Rattle.phone_library_laws.proofs.Prefixes.{announced_by_default}
use Rattle.phone_library_laws.proofs.ReadSigned.{coded_of, uncarried_coded}
use Rattle.phone_library_laws.proofs.Rfc3966Back.{rfc3966_back}
use Rattle.phone_library_laws.proofs.twice.read_twice.Goals as goal

pub returns-clause-international : goal.returns-clause-international
returns-clause-international c whose db hint other text again n rules settled read layout none e =
    let extension = extension_read db hint text n read in
    let announced = announced_by_default layout.territory n.extension none extension in
    let coded = coded_of db n (settled_if_read db hint text n rules settled read) in
    international_back whose db (uncarried n) (uncarried_coded db n coded)
    (record { layout = layout; announced = announced }) other again e settled.idle

pub returns-clause-rfc3966 : goal.returns-clause-rfc3966
returns-clause-rfc3966 c whose db hint other text again n rules settled read layout e =
    rfc3966_back whose db n (coded_of db n (settled_if_read db hint text n rules settled read))
    (record { layout = layout; parameter = extension_read db hint text n read }) other again e
    settled.idle
