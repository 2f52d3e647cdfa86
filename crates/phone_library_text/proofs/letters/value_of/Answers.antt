use Rattle.std.proofs.Common.{ltb-true, sym, ◌∙◌}
use Rattle.phone_chars.proofs.Ascii.{ascii_nd}
use Rattle.phone_library_text.proofs.Digits.{value_digit, value_none, value_other}
use Rattle.phone_library_text.proofs.letters.value_of.Goals as goal

pub returns-then-is_digit : goal.returns-then-is_digit
returns-then-is_digit c = sym (value_digit c.args.c (sym c.is_digit.ensures ∙ c.if-is_digit.true))

pub returns-then-is_ascii : goal.returns-then-is_ascii
returns-then-is_ascii c =
    sym (value_none c.args.c (ascii_nd c.args.c (ltb-true c.args.c 128 (sym c.is_ascii.ensures ∙ c.if-is_ascii.true)) ∙ sym c.is_digit.ensures ∙ c.if-is_digit.false))

pub returns : goal.returns
returns c = c.script_value.ensures ∙ sym (value_other c.args.c (sym c.is_digit.ensures ∙ c.if-is_digit.false))
