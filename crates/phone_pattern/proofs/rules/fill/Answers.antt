use Rattle.std.proofs.Common.{◌≡◌, ◌∷◌, IfOk, subst, refl, ap₂, string_bytes, rules, ◌∙◌}
use Rattle.phone_pattern.specs.Rules.{with_mark}
use Rattle.phone_pattern.proofs.Marks.{all_replaced, replaced-with_mark}
use Rattle.phone_pattern.proofs.rules.fill.Goals as goal

pub returns : goal.returns
returns c =
    let prefixed : string_bytes c.in_ok-prefixed.prefixed ≡ with_mark 78 80 c.args.prefix.now c.args.rule.now =
    replaced-with_mark 78 80 _ c.in_ok-prefixed.ensures.ok.0 _ _ _ refl c.in_ok-prefixed.ensures.ok.1 in
    let grouped : string_bytes c.in_ok-grouped.grouped ≡ with_mark 70 71 c.as_str-2.result.now c.as_str.result.now =
    replaced-with_mark 70 71 _ c.in_ok-grouped.ensures.ok.0 _ _ _ refl c.in_ok-grouped.ensures.ok.1 in
    let literal : c.as_str-2.result.now ≡ 36 ∷ c.args.group.now = search rules in
    let last : c.as_str-3.result.now ≡ with_mark 70 71 (36 ∷ c.args.group.now) (with_mark 78 80 c.args.prefix.now c.args.rule.now) =
    c.as_str-3.ensures.value ∙ grouped ∙ ap₂ (with_mark 70 71) literal (c.as_str.ensures.value ∙ prefixed) in
    subst (λ t. IfOk c.replace-3.result (λ out. string_bytes out ≡ with_mark 67 67 c.args.carrier.now t)) last
    (all_replaced 67 67 c.args.carrier.now string_bytes c.replace-3.result _ _ refl c.replace-3.ensures.ok)
