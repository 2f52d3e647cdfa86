use Rattle.std.proofs.Common.{◌≡◌, Some, string_bytes, ap, ◌∙◌}
use Rattle.std.specs.Fmt.{decimal}
use Rattle.phone_parts.proofs.Prefixes.{is_front-append}
use Rattle.phone_parts.specs.Texts.{is_front}
use Rattle.phone_plans.specs.CodeLookUps.{shortest}
use Rattle.phone_read.proofs.ListedFronts.{shortest-front}
use Rattle.phone_keyed_parts.specs.Lines.{Line}
use Rattle.phone_keyed_parts.proofs.line.Line.after_code.Goals as goal

pub behind_number-at-requires : goal.behind_number-at-requires
behind_number-at-requires c =
    let given : shortest c.args.db.now (string_bytes c.self.inside.national) ≡ Some c.args.code =
    ap (λ (l : Line). shortest c.args.db.now l.national) c.self.view_is ∙ c.requires in
    let at = shortest-front c.args.db.now (string_bytes c.self.inside.national) c.args.code given in
    ap (is_front (decimal c.args.code)) (c.as_str-national.ensures.value ∙ at.1) ∙ is_front-append (decimal c.args.code) at.0
