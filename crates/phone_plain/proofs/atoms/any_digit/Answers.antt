use Rattle.phone_plain.proofs.Parting.{any_digit_read}
use Rattle.phone_plain.proofs.atoms.any_digit.Goals as goal

pub returns : goal.returns
returns c =
    any_digit_read c.args.text.now c.in_ok-behind.field-0.now c.in_ok-rest.rest.now c.in_ok-digits.field-0
    c.in_ok-behind.ensures c.in_ok-rest.ensures c.in_ok-digits.ensures
