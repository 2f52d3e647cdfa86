use Rattle.std.proofs.Common.{not, ap, sym, ◌∙◌}
use Rattle.phone_parts.proofs.Announcers.{plain_announces_none}
use Rattle.phone_parts.proofs.suffix.announces.Goals as goal

pub returns-else-not-is_plain : goal.returns-else-not-is_plain
returns-else-not-is_plain c =
    ap not c.if-not-is_plain.false
    ∙ sym (plain_announces_none c.args.c (sym c.is_plain.ensures ∙ c.if-not-is_plain.false))
