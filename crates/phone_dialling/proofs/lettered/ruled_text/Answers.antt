use Rattle.std.proofs.Common.{◌≡◌, ◌==◌, ◌++◌, false, IfOk, length, string_bytes, ap, sym, subst, ◌∙◌}
use Rattle.phone_dialling.specs.Lettered.{before_group, ruled_by, ruled_group, ruled_text}
use Rattle.phone_dialling.proofs.Ruled.{ruled_some}
use Rattle.phone_dialling.proofs.lettered.ruled_text.Goals as goal

pub returns : goal.returns
returns c =
    let text = c.args.text.now in
    let rule = c.args.rule.now in
    let prefix = c.args.prefix.now in
    let group = c.parted.result.1.now in
    let behind = c.parted.result.2.now in
    let some : (length group == 0) ≡ false = sym c.is_empty.ensures ∙ c.if-is_empty.false in
    let whole : c.parted.result.0.now ++ (ruled_group rule prefix group ++ behind) ≡ ruled_text rule prefix text =
    ap (λ b. b ++ (ruled_group rule prefix group ++ behind)) c.parted.ensures.before
    ∙ ap (λ b. before_group text ++ (ruled_group rule prefix group ++ b)) c.parted.ensures.behind
    ∙ sym (ruled_some rule prefix text group some) ∙ ap (ruled_by rule prefix text) c.parted.ensures.group in
    subst (λ r. IfOk c.with_group.result (λ t. string_bytes t ≡ r)) whole c.with_group.ensures
