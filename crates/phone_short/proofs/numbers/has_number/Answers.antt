use Rattle.std.proofs.Common.{◌≡◌, IfOk, ap, sym, subst}
use Rattle.std.specs.Option.{option_copied}
use Rattle.phone_short.specs.Numbers.{has_number}
use Rattle.phone_short.proofs.numbers.has_number.Goals as goal

pub returns-in-Some : goal.returns-in-Some
returns-in-Some c =
    subst (λ o. IfOk c.has_digits.result (λ b. b ≡ has_number (option_copied o) c.args.digits.now)) (sym c.in-Some.is) c.has_digits.ensures

pub returns-in-None : goal.returns-in-None
returns-in-None c = ap (λ o. has_number (option_copied o) c.args.digits.now) (sym c.in-None.is)
