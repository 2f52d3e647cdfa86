use Rattle.std.proofs.Common.{None, Ok, subst, if◌then◌else◌, Bool, chars}
use Rattle.phone_engine.proofs.Printed.{back_alike, e164_of_international, e164_of_rfc3966}
use Rattle.phone_engine.proofs.Swaps.{is_one_extension-itself}
use Rattle.phone_values.specs.declared.rules.Rules.TheVariants.{Crate}
use Rattle.phone_engine.specs.Sameness.{IsAnswer}
use Rattle.phone_engine.specs.declared.sameness.Sameness.TheVariants.{Exact, Number}
use Rattle.phone_engine.proofs.question_laws.printed_alike.Goals as goal

pub returns-clause-rfc3966 : goal.returns-clause-rfc3966
returns-clause-rfc3966 c db n e164 text bounded plain idle some few free e f =
    back_alike db (chars e164) (chars text) n None n.extension
    (c.e164_back.ensures db n e164 bounded (e164_of_rfc3966 db n plain) idle some few free e)
    (c.rfc3966_back.ensures db n text bounded plain idle f)

pub returns-clause-international : goal.returns-clause-international
returns-clause-international c db n e164 text bounded utf8 plain idle some few free benign e f =
    back_alike db (chars e164) (chars text) n None n.extension
    (c.e164_back.ensures db n e164 bounded (e164_of_international db n plain) idle some few free e)
    (c.international_back.ensures db n text bounded utf8 plain idle some few free benign f)

pub returns-clause-both : goal.returns-clause-both
returns-clause-both c db n rfc3966 text bounded utf8 tel plain idle some few free benign e f =
    subst (λ (b : Bool). IsAnswer Crate db (chars rfc3966) (chars text) (Ok (if b then Exact else Number))) (is_one_extension-itself n.extension)
    (back_alike db (chars rfc3966) (chars text) n n.extension n.extension
    (c.rfc3966_back.ensures db n rfc3966 bounded tel idle e)
    (c.international_back.ensures db n text bounded utf8 plain idle some few free benign f))
