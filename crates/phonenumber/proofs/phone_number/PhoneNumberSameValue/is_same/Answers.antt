use Rattle.std.proofs.Common.{subst}
use Rattle.phone_values.specs.Numbers.{IsHeld}
use Rattle.phone_values.specs.declared.reading.Reading.{Reading}
use Rattle.phonenumber.proofs.SameNumbers.{numbers_same}
use Rattle.phonenumber.proofs.phone_number.PhoneNumberSameValue.is_same.Goals as goal

pub returns : goal.returns
returns c =
    let held = λ (n : Reading). IsHeld n.national in
    numbers_same c.args.self.now c.args.other.now (subst held c.self.view_is c.value-value.ensures.held) (subst held c.other.view_is c.value-other.ensures.held) c.eq.result
    c.eq.ensures
