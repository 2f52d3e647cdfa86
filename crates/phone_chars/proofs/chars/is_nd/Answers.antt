use Rattle.std.proofs.Common.{ltb-true, sym, ◌∙◌}
use Rattle.phone_chars.proofs.Ascii.{ascii_nd}
use Rattle.phone_chars.proofs.chars.is_nd.Goals as goal

pub returns-then-is_ascii : goal.returns-then-is_ascii
returns-then-is_ascii c = c.is_digit.ensures ∙ sym (ascii_nd c.args.c (ltb-true c.args.c 128 (sym c.is_ascii.ensures ∙ c.if-is_ascii.true)))
