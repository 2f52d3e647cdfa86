use Rattle.std.proofs.Common.{◌≡◌, ◌∷◌, Some, true, chars, arith, ap, sym, subst, ◌∙◌}
use Rattle.std.proofs.lemmas.Str.Pattern.{strip_prefix_char}
use Rattle.std.specs.List.{list_all}
use Rattle.phone_chars.specs.Characters.{is_digit}
use Rattle.phone_typed.specs.Keys.{keys_in}
use Rattle.phone_typed.proofs.KeysOfTexts.{keys_of_digits, keys_of_signed}
use Rattle.phone_typed.proofs.keys.are_keys.Goals as goal

pub returns-in-Some : goal.returns-in-Some
returns-in-Some c are =
    let text = c.args.text.now in
    let digits = c.in-Some.digits.now in
    let front : text ≡ 43 ∷ digits = strip_prefix_char 43 text (Some c.in-Some.digits) c.in-Some.ensures.cases (omega arith) in
    let all : list_all is_digit digits ≡ true = ap (list_all is_digit) (sym c.as_bytes.ensures.value) ∙ sym c.are_digits.ensures ∙ are in
    subst (λ t. keys_in (chars t) ≡ t) (sym front) (keys_of_signed digits all)

pub returns-in-None : goal.returns-in-None
returns-in-None c are =
    keys_of_digits c.args.text.now (ap (list_all is_digit) (sym c.as_bytes-in-None.ensures.value) ∙ sym c.are_digits-in-None.ensures ∙ are)
