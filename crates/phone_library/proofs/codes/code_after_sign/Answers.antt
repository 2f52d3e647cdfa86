use Rattle.std.proofs.Common.{ap, sym, ◌∙◌}
use Rattle.std.specs.Fmt.{decimal}
use Rattle.phone_parts.proofs.Prefixes.{is_front-append}
use Rattle.phone_parts.specs.Texts.{is_front}
use Rattle.phone_read.proofs.ListedFronts.{shortest-front}
use Rattle.phone_library.proofs.codes.code_after_sign.Goals as goal

pub behind_number-requires : goal.behind_number-requires
behind_number-requires c =
    let at = shortest-front c.args.db.now c.args.digits.now c.in-Some.value (sym c.shortest.ensures ∙ c.in-Some.is) in
    ap (is_front (decimal c.in-Some.value)) at.1 ∙ is_front-append (decimal c.in-Some.value) at.0
