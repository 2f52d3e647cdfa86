use Rattle.std.proofs.Common.{ap, sym, ◌∙◌}
use Rattle.std.specs.List.{list_all}
use Rattle.std.specs.Str.{chars}
use Rattle.phone_chars.specs.Characters.{is_digit}
use Rattle.phone_library_text.proofs.Digits.{digits_plain, own_bytes}
use Rattle.phone_library_text.proofs.letters.digits_in.Goals as goal

pub returns-then-has_digits_alone-clause-digits : goal.returns-then-has_digits_alone-clause-digits
returns-then-has_digits_alone-clause-digits c =
    let read = c.after_run-unsigned.ensures.rest in
    let all = sym c.has_digits_alone.ensures ∙ c.if-has_digits_alone.true in
    own_bytes c.after_run-unsigned.result.now c.after_run-unsigned.utf8 all ∙ read
    ∙ sym (digits_plain (chars c.args.text.now) (ap (list_all is_digit) (sym read) ∙ all))
