use Rattle.std.proofs.Common.{◌≡◌, ◌∷◌, ◌++◌, OnOk, string_bytes, option_copied, sym, ap, subst, ◌∙◌}
use Rattle.phone_values.specs.declared.mode.Mode.TheVariants.{International, National}
use Rattle.phone_print.specs.Layouts.{layout_by}
use Rattle.phone_print.proofs.TextsLaid.{laid-laid_out, texts_laid-texts_by}
use Rattle.phone_print.proofs.printing.push_texts_of.Goals as goal

pub returns-then-is_laid_alike-clause-texts : goal.returns-then-is_laid_alike-clause-texts
returns-then-is_laid_alike-clause-texts c =
    let m = c.args.m.now in
    let rules = c.args.rules in
    let n = c.args.number.now in
    let digits = c.args.digits.now in
    let own = option_copied c.args.own in
    let layouts = c.in_ok-layouts.ensures in
    let is = c.of-subject.ensures ∙ c.requires in
    let abroad = laid-laid_out rules m International own _ n c.of-subject.result _ is layouts.abroad
    (c.as_str-laid.ensures.value ∙ c.in_ok-abroad.ensures) in
    subst (λ t. OnOk c.push_laid.result (string_bytes c.push_laid.new.line ≡ string_bytes c.args.line.now ++ 9 ∷ t))
    (texts_laid-texts_by rules m own n digits _ _ c.requires abroad
    (abroad ∙ sym (c.is_laid_alike.ensures c.if-is_laid_alike.true rules own (layouts.abroad ∙ ap (layout_by rules m International own) is))))
    c.push_laid.ensures.texts

pub returns-clause-texts : goal.returns-clause-texts
returns-clause-texts c =
    let m = c.args.m.now in
    let rules = c.args.rules in
    let n = c.args.number.now in
    let digits = c.args.digits.now in
    let own = option_copied c.args.own in
    let layouts = c.in_ok-layouts.ensures in
    let is = c.of-subject.ensures ∙ c.requires in
    subst (λ t. OnOk c.push_laid-2.result (string_bytes c.push_laid-2.new.line ≡ string_bytes c.args.line.now ++ 9 ∷ t))
    (texts_laid-texts_by rules m own n digits _ _ c.requires
    (laid-laid_out rules m International own _ n c.of-subject.result _ is layouts.abroad (c.as_str-laid.ensures.value ∙ c.in_ok-abroad.ensures))
    (laid-laid_out rules m National own _ n c.of-subject.result _ is layouts.at_home (c.as_str.ensures.value ∙ c.in_ok-at_home.ensures)))
    c.push_laid-2.ensures.texts
