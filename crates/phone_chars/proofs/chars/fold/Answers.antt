use Rattle.std.proofs.Common.{ltb-true, sym, ◌∙◌}
use Rattle.phone_chars.proofs.Ascii.{ascii_folded}
use Rattle.phone_chars.proofs.chars.fold.Goals as goal

pub returns-then-is_ascii : goal.returns-then-is_ascii
returns-then-is_ascii c =
    c.to_ascii_lowercase.ensures.value ∙ sym (ascii_folded c.args.c (ltb-true c.args.c 128 (sym c.is_ascii.ensures ∙ c.if-is_ascii.true)))
