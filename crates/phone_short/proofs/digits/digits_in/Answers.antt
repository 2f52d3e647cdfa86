use Rattle.std.proofs.Common.{ap, sym, ◌∙◌}
use Rattle.std.specs.List.{list_all}
use Rattle.std.specs.Str.{chars}
use Rattle.phone_chars.specs.Characters.{is_digit}
use Rattle.phone_library_text.proofs.Digits.{values_digits}
use Rattle.phone_short.proofs.Cores.{core_digits, no_core_digits}
use Rattle.phone_short.proofs.Records.{ok_again}
use Rattle.phone_short.proofs.digits.digits_in.Goals as goal

pub returns-in-Some-clause-values : goal.returns-in-Some-clause-values
returns-in-Some-clause-values c =
    ok_again c.digit_values.result _ _ (λ s h. h ∙ sym (core_digits (chars c.args.text.now) (chars c.in-Some.core.now) c.in-Some.ensures.core)) c.digit_values.ensures

pub returns-in-Some-clause-digits : goal.returns-in-Some-clause-digits
returns-in-Some-clause-digits c =
    ok_again c.digit_values.result _ _ (λ s h. ap (list_all is_digit) h ∙ values_digits (chars c.in-Some.core.now)) c.digit_values.ensures

pub returns-in-None-clause-values : goal.returns-in-None-clause-values
returns-in-None-clause-values c = c.new.ensures.bytes ∙ sym (no_core_digits (chars c.args.text.now) c.in-None.ensures.core)
