use Rattle.std.proofs.Common.{refl}
use Rattle.phone_library_text.proofs.PlainNumbers.{if_signed, if_unsigned, other_signed, other_unsigned}
use Rattle.phone_library_text.proofs.plain.plain_number.Goals as goal

pub returns-in-Some-clause-plain : goal.returns-in-Some-clause-plain
returns-in-Some-clause-plain c =
    if_signed (λ p. p.has_plus) (λ p. p.digits.now) c.of_digits.result c.args.text.now c.in-Some.digits.now c.in-Some.ensures.found c.of_digits.ensures.found

pub returns-in-Some-clause-other : goal.returns-in-Some-clause-other
returns-in-Some-clause-other c none = other_signed c.args.text.now c.in-Some.digits.now c.in-Some.ensures.found (c.of_digits.ensures.none none)

pub returns-in-None-clause-plain : goal.returns-in-None-clause-plain
returns-in-None-clause-plain c =
    if_unsigned (λ p. p.has_plus) (λ p. p.digits.now) c.of_digits-in-None.result c.args.text.now c.of_digits-in-None.ensures.found

pub returns-in-None-clause-other : goal.returns-in-None-clause-other
returns-in-None-clause-other c none = other_unsigned c.args.text.now (c.in-None.ensures.none refl) (c.of_digits-in-None.ensures.none none)
