use Rattle.std.proofs.Common.{◌≡◌, ◌++◌, OnOk, string_bytes, rules, ap, sym, subst, ◌∙◌}
use Rattle.std.specs.Option.{option_to_list}
use Rattle.phone_typed.specs.Keys.{key_of}
use Rattle.phone_typed.proofs.KeysOfTexts.{key_byte}
use Rattle.phone_typed.proofs.keys.push_key.Goals as goal

pub returns-in-Some-clause-pushed : goal.returns-in-Some-clause-pushed
returns-in-Some-clause-pushed c =
    let keys = string_bytes c.args.keys.now in
    let has : key_of keys c.args.c ≡ _ = ap (λ t. key_of t c.args.c) (sym c.as_str.ensures.value) ∙ sym c.key_of.ensures ∙ c.in-Some.is in
    let pushed : OnOk c.push.result (string_bytes c.push.new.self ≡ keys ++ _) = search rules in
    subst (λ t. OnOk c.push.result (string_bytes c.push.new.self ≡ keys ++ t)) (key_byte keys c.args.c c.in-Some.key has ∙ ap option_to_list (sym has)) pushed
