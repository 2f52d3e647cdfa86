use Rattle.std.proofs.Common.{drop, length, sym, ◌∙◌}
use Rattle.phone_parts.proofs.Prefixes.{is_front-drop}
use Rattle.phone_read.proofs.DecimalFronts.{border_after}
use Rattle.phone_library.proofs.stripping.behind_text.Goals as goal

pub trim-requires : goal.trim-requires
trim-requires c =
    let front = c.args.prefix.now in
    let digits = c.args.digits.now in
    border_after digits front (drop (length front) digits) (is_front-drop front digits (sym c.has_front.ensures ∙ c.if-has_front.true)) c.utf8.digits c.utf8.prefix
