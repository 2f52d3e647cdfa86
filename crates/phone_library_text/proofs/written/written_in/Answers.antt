use Rattle.std.proofs.Common.{◌≡◌, inr, Result, Ok, IfOk, subst}
use Rattle.std.specs.Str.{chars}
use Rattle.phone_library_text.specs.NumberTexts.{chars_of}
use Rattle.phone_library_text.specs.Written
use Rattle.phone_library_text.proofs.WrittenOnes.{written_as}
use Rattle.phone_library_text.proofs.written.written_in.Goals as goal

pub returns-in_default : goal.returns-in_default
returns-in_default c = inr (Written.not_viable c.in_default.ensures)

-- what holds of a value that was made
of_ok : {V E : Type 0} (P : V → Type 0) (r : Result V E) (v : V) → r ≡ Ok v → IfOk r P → P v
of_ok P r v e h = subst (λ x. IfOk x P) e h

pub returns : goal.returns
returns c =
    let made = c.in_ok-digits.ensures.made in
    inr (written_as (chars c.args.number.now) (chars c.in-Some.front.now) (chars_of c.in-Some.extension) c.begins_with_plus.result c.in_ok-digits.digits c.in_ok-digits.extension
    c.in-Some.ensures.0 c.in-Some.ensures.1 c.begins_with_plus.ensures
    (of_ok _ c.text_of_digits.result c.in_ok-digits.digits made.0 c.text_of_digits.ensures.digits) (of_ok _ c.text_of.result c.in_ok-digits.extension made.1 c.text_of.ensures.extension))
