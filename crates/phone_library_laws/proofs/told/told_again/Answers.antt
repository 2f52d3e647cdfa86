use Rattle.std.proofs.Common.{chars, Some}
use Rattle.phone_library.specs.Readings.{stripped}
use Rattle.phone_library_laws.specs.Again.{e164_reading}
use Rattle.phone_library_laws.proofs.ReadAgain.{read_again}
use Rattle.phone_library_text.proofs.PlainWritten.{international_written}
use Rattle.phone_print.specs.Texts.{e164_text}
use Rattle.phone_library_laws.specs.Printed.{inside_reading, printed_reading, uncarried}
use Rattle.phone_library_laws.proofs.InternationalBack.{international_back}
use Rattle.phone_library_laws.proofs.NationalBack.{national_back}
use Rattle.phone_library_laws.proofs.ReadSigned.{coded_of, uncarried_coded}
use Rattle.phone_library_laws.proofs.Rfc3966Back.{rfc3966_back}
use Rattle.phone_library_laws.proofs.ToldAlike.{e164_alike, inside_alike, printed_alike, told_alike}
use Rattle.phone_library_laws.proofs.told.told_again.Goals as goal

pub returns-clause-e164 : goal.returns-clause-e164
returns-clause-e164 c db hint n r settled read =
    told_alike db hint (chars (e164_text n)) n r (e164_reading n) read
    (read_again db n settled international_written hint) (e164_alike db n)

pub returns-clause-international : goal.returns-clause-international
returns-clause-international c whose db hint n r text settled plain e read =
    told_alike db hint (chars text) n r (printed_reading n) read
    (international_back whose db (uncarried n) (uncarried_coded db n (coded_of db n settled)) plain hint
    text e settled.idle)
    (printed_alike db n)

pub returns-clause-rfc3966 : goal.returns-clause-rfc3966
returns-clause-rfc3966 c whose db hint n r text settled plain e read =
    told_alike db hint (chars text) n r (printed_reading n) read
    (rfc3966_back whose db n (coded_of db n settled) plain hint text e settled.idle) (printed_alike db n)

pub returns-clause-national : goal.returns-clause-national
returns-clause-national c whose db hint m n r text there plain e read =
    let carrier = (stripped (Some m) plain.layout.digits).carrier in
    told_alike db hint (chars text) n r (inside_reading n carrier) read
    (national_back whose db m (uncarried n) plain.layout hint text there e plain.dialled)
    (inside_alike db n carrier)
