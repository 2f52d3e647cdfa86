use Rattle.std.proofs.Common.{IsUtf8, drop, length, ap, sym, subst, ◌∙◌}
use Rattle.std.specs.Cow.{cow_str_bytes}
use Rattle.phone_parts.specs.Texts.{is_front}
use Rattle.phone_parts.proofs.Prefixes.{is_front-drop}
use Rattle.phone_read.proofs.DecimalFronts.{border_after}
use Rattle.phone_read.proofs.trims.past_front.Goals as goal

pub trim-requires : goal.trim-requires
trim-requires c =
    let front = c.args.front.now in
    let bytes = cow_str_bytes c.args.text in
    let begins = ap (is_front front) (sym c.as_str.ensures.value) ∙ sym c.has_front.ensures ∙ c.if-has_front.true in
    border_after bytes front (drop (length front) bytes) (is_front-drop front bytes begins) (subst IsUtf8 c.as_str.ensures.value c.as_str.utf8) c.utf8.front
