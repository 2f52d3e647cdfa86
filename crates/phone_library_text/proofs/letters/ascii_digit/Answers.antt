use Rattle.std.proofs.Common.{sym, ◌∙◌}
use Rattle.phone_chars.proofs.Ascii.{ascii_nd}
use Rattle.phone_library_text.proofs.Digits.{value_digit, value_none}
use Rattle.phone_library_text.proofs.letters.ascii_digit.Goals as goal

pub returns-then-is_ascii_digit : goal.returns-then-is_ascii_digit
returns-then-is_ascii_digit c = sym (value_digit c.args.byte (sym c.is_ascii_digit.ensures.value ∙ c.if-is_ascii_digit.true))

pub returns-else-is_ascii_digit : goal.returns-else-is_ascii_digit
returns-else-is_ascii_digit c = sym (value_none c.args.byte (ascii_nd c.args.byte c.requires ∙ sym c.is_ascii_digit.ensures.value ∙ c.if-is_ascii_digit.false))
