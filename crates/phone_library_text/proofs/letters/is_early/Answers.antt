use Rattle.std.proofs.Common.{sym, ◌∙◌}
use Rattle.std.proofs.lemmas.Bool.{or_right}
use Rattle.phone_parts.proofs.PrintedInternational.{digit_nd}
use Rattle.phone_library_text.proofs.letters.is_early.Goals as goal

pub returns-then-is_digit : goal.returns-then-is_digit
returns-then-is_digit c = c.if-is_digit.true ∙ sym (or_right _ _ (digit_nd c.args.c (sym c.is_digit.ensures ∙ c.if-is_digit.true)))
