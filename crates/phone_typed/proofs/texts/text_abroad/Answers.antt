use Rattle.std.proofs.Common.{ap, sym, ◌∙◌}
use Rattle.std.specs.Fmt.{decimal}
use Rattle.phone_parts.specs.Texts.{is_front}
use Rattle.phone_parts.proofs.Prefixes.{is_front-append}
use Rattle.phone_read.proofs.ListedFronts.{shortest-front}
use Rattle.phone_typed.proofs.texts.text_abroad.Goals as goal

pub text_of_code-requires : goal.text_of_code-requires
text_of_code-requires c =
    let at = shortest-front c.args.db.now c.args.digits.now c.in-Some.code (sym c.shortest.ensures ∙ c.in-Some.is) in
    ap (is_front (decimal c.in-Some.code)) at.1 ∙ is_front-append (decimal c.in-Some.code) at.0
