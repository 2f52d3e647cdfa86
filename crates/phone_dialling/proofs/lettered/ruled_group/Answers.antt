use Rattle.std.proofs.Common.{◌≡◌, IfOk, string_bytes, refl, subst, ◌∙◌}
use Rattle.phone_pattern.specs.Rules.{with_mark}
use Rattle.phone_pattern.proofs.Marks.{all_replaced, replaced-with_mark}
use Rattle.phone_dialling.proofs.lettered.ruled_group.Goals as goal

pub returns : goal.returns
returns c =
    let prefixed : string_bytes c.in_ok-prefixed.prefixed ≡ with_mark 78 80 c.args.prefix.now c.args.rule.now =
    replaced-with_mark 78 80 _ c.in_ok-prefixed.ensures.ok.0 _ _ _ refl c.in_ok-prefixed.ensures.ok.1 in
    let last : c.as_str.result.now ≡ with_mark 78 80 c.args.prefix.now c.args.rule.now = c.as_str.ensures.value ∙ prefixed in
    subst (λ t. IfOk c.replace-2.result (λ out. string_bytes out ≡ with_mark 70 71 c.args.group.now t)) last
    (all_replaced 70 71 c.args.group.now string_bytes c.replace-2.result _ _ refl c.replace-2.ensures.ok)
