use Rattle.std.proofs.Common.{◌≡◌, Some, None, codes, ap, sym, ◌∙◌, true≢false}
use Rattle.std.specs.Str.{chars}
use Rattle.phone_parts.specs.Texts.{after_like}
use Rattle.phone_parts.proofs.Endings.{digits_test, digits_of_test, chars_parameter, parameter_cut}
use Rattle.phone_parts.proofs.Likes.{after_like_parts}
use Rattle.phone_parts.proofs.suffix.parameter.Goals as goal

pub returns-in_err-digits-clause-read : goal.returns-in_err-digits-clause-read
returns-in_err-digits-clause-read c = rw c.from_residual.ensures (λ d h.
    let found = parameter_cut (chars c.args.text.now) d h in
    let none : after_like (chars c.args.text.now) (codes ";ext=") ≡ None = ap (after_like (chars c.args.text.now)) (sym chars_parameter) ∙ c.in_err-digits.ensures.read in
    absurd (cc))

pub returns-then-not-are_digits-clause-read : goal.returns-then-not-are_digits-clause-read
returns-then-not-are_digits-clause-read c = λ d h.
    let found = parameter_cut (chars c.args.text.now) d h in
    let some : after_like (chars c.args.text.now) (codes ";ext=") ≡ Some (chars c.in_ok-digits.digits.now) = ap (after_like (chars c.args.text.now)) (sym chars_parameter) ∙ c.in_ok-digits.ensures.read in
    let same : d ≡ chars c.in_ok-digits.digits.now = cc in
    true≢false (sym (digits_test 7 d h.digits) ∙ rw same (sym c.are_digits.ensures ∙ c.if-not-are_digits.true))

pub returns-clause-read : goal.returns-clause-read
returns-clause-read c =
    let some : after_like (chars c.args.text.now) (codes ";ext=") ≡ Some (chars c.in_ok-digits.digits.now) = ap (after_like (chars c.args.text.now)) (sym chars_parameter) ∙ c.in_ok-digits.ensures.read in
    let parts = after_like_parts (chars c.args.text.now) (codes ";ext=") (chars c.in_ok-digits.digits.now) some in
    record { name = parts.name; whole = parts.whole; named = parts.like; digits = digits_of_test 7 _ (sym c.are_digits.ensures ∙ c.if-not-are_digits.false) }
