use Rattle.std.proofs.Common.{sym, ◌∙◌}
use Rattle.std.specs.Str.{chars}
use Rattle.phone_library_text.proofs.Viables.{is_two_digits_of, two_digits_of}
use Rattle.phone_library_text.proofs.viable.is_two_digits.Goals as goal

pub returns : goal.returns
returns c = (λ h. is_two_digits_of (chars c.args.text.now) (sym c.is_digit_pair.ensures ∙ h), λ t. c.is_digit_pair.ensures ∙ two_digits_of (chars c.args.text.now) t)
