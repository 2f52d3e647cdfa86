use Rattle.phone_parts.proofs.AnnouncedParts.{announced_parts}
use Rattle.phone_parts.proofs.PrintedE164.{e164_parts}
use Rattle.phone_parts.proofs.PrintedInternational.{international_parts}
use Rattle.phone_parts.proofs.PrintedTel.{rfc3966_parts}
use Rattle.phonenumber.proofs.BackLaws.{e164_back, e164_idle, international_back, international_idle, rfc3966_back, rfc3966_idle}
use Rattle.phonenumber.proofs.BackPrefixes.{announced_safely}
use Rattle.phonenumber.proofs.Reaches.{international_without_layout, plain_if_read, rfc3966_without_layout}
use Rattle.phonenumber.proofs.laws.reach.Goals as goal

pub returns-clause-e164_exactly : goal.returns-clause-e164_exactly
returns-clause-e164_exactly c db n text bounded plain rules some few free e =
    (e164_idle e164_parts db n text bounded plain some few free e rules, e164_back e164_parts db n text bounded plain some few free e)

pub returns-clause-rfc3966_exactly : goal.returns-clause-rfc3966_exactly
returns-clause-rfc3966_exactly c db n text bounded plain rules e =
    (rfc3966_idle rfc3966_parts db n text bounded plain e rules, rfc3966_back rfc3966_parts db n text bounded plain e)

pub returns-clause-international_exactly : goal.returns-clause-international_exactly
returns-clause-international_exactly c db n text bounded utf8 plain rules some few free benign e = (
  international_idle international_parts announced_parts db n text bounded utf8 plain some few free
      (announced_safely plain.territory n benign) e rules,
  international_back international_parts announced_parts db n text bounded utf8 plain some few free
      (announced_safely plain.territory n benign) e,
)

pub returns-clause-what_is_read : goal.returns-clause-what_is_read
returns-clause-what_is_read c = plain_if_read

pub returns-clause-international_without_layout : goal.returns-clause-international_without_layout
returns-clause-international_without_layout c = international_without_layout

pub returns-clause-rfc3966_without_layout : goal.returns-clause-rfc3966_without_layout
returns-clause-rfc3966_without_layout c = rfc3966_without_layout
