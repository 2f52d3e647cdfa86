use Rattle.std.proofs.Common.{not, ap, sym, ◌∙◌}
use Rattle.std.specs.List.{list_all}
use Rattle.phone_parts.specs.Suffixes.{is_plain}
use Rattle.phone_parts.proofs.Announcers.{plain_bytes_announce_none}
use Rattle.phone_parts.proofs.suffix.has_announcer.Goals as goal

pub returns-else-not-are_plain : goal.returns-else-not-are_plain
returns-else-not-are_plain c =
    let plain = ap (list_all is_plain) (sym c.as_bytes.ensures.value) ∙ sym c.are_plain.ensures ∙ c.if-not-are_plain.false in
    ap not c.if-not-are_plain.false ∙ sym (plain_bytes_announce_none c.args.text.now plain)
