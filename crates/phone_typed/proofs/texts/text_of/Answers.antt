use Rattle.std.proofs.Common.{◌≡◌, IfOk, None, Some, string_bytes, rules, arith, ap, sym, subst, ◌∙◌}
use Rattle.std.proofs.lemmas.Str.Pattern.{strip_prefix_char}
use Rattle.std.specs.Option.{option_copied}
use Rattle.phone_typed.specs.Typed.{layout_territory}
use Rattle.phone_typed.proofs.HomeTexts.{typed_in, typed_nowhere}
use Rattle.phone_typed.proofs.texts.text_of.Goals as goal

pub returns-in-Some-home : goal.returns-in-Some-home
returns-in-Some-home c hint same =
    let keys = c.args.keys.now in
    let none = strip_prefix_char 43 keys None c.in_default.ensures.cases (omega arith) in
    let there : layout_territory c.args.db.now hint ≡ Some c.in-Some-home.m.now = sym (same none) ∙ ap option_copied c.in-Some-home.is in
    subst (λ t. IfOk c.text_at.result (λ s. string_bytes s ≡ t)) (typed_in c.args.db.now hint keys c.in-Some-home.m.now none there) c.text_at.ensures

pub returns-in-None : goal.returns-in-None
returns-in-None c hint same =
    let keys = c.args.keys.now in
    let none = strip_prefix_char 43 keys None c.in_default.ensures.cases (omega arith) in
    let nowhere : layout_territory c.args.db.now hint ≡ None = sym (same none) ∙ ap option_copied c.in-None.is in
    let copied : IfOk c.from_str.result (λ s. string_bytes s ≡ keys) = search rules in
    subst (λ t. IfOk c.from_str.result (λ s. string_bytes s ≡ t)) (typed_nowhere c.args.db.now hint keys none nowhere) copied
