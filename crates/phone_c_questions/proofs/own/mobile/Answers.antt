use Rattle.std.proofs.Common.{◌≡◌, ℕ, ◌==◌, not, List, rules, ap, ◌∙◌}
use Rattle.phone_further.specs.Answers.{mobile_text_in}
use Rattle.phone_c_base.specs.Numbers.{IsNumber}
use Rattle.phone_c_questions.proofs.Mobiles.{mobile_told}
use Rattle.phone_c_questions.proofs.own.mobile.Goals as goal

pub returns-in-Ok-mobile_text_in-clause-written : goal.returns-in-Ok-mobile_text_in-clause-written
returns-in-Ok-mobile_text_in-clause-written c = λ ok.
    let db = c.args.database.now in
    let n = c.in-Ok-to_phone_number.number in
    let same : c.in-Ok.id.now ≡ c.args.id.now = search rules in
    let is : IsNumber c.args.number.now c.args.bytes.now n = search rules in
    let text = c.as_bytes.ensures.value ∙ c.in-Ok-mobile_text_in.ensures
    ∙ ap (λ (i : List ℕ). mobile_text_in db i (not (c.args.with_symbols == 0)) n) same in
    (c.as_bytes.result.now, mobile_told db c.args.id.now c.args.with_symbols c.args.number.now c.args.bytes.now c.as_bytes.result.now n is text, c.give.ensures.written ok)

pub returns-in-Ok-mobile_text_in-clause-too_small : goal.returns-in-Ok-mobile_text_in-clause-too_small
returns-in-Ok-mobile_text_in-clause-too_small c = λ small.
    let db = c.args.database.now in
    let n = c.in-Ok-to_phone_number.number in
    let same : c.in-Ok.id.now ≡ c.args.id.now = search rules in
    let is : IsNumber c.args.number.now c.args.bytes.now n = search rules in
    let text = c.as_bytes.ensures.value ∙ c.in-Ok-mobile_text_in.ensures
    ∙ ap (λ (i : List ℕ). mobile_text_in db i (not (c.args.with_symbols == 0)) n) same in
    (c.as_bytes.result.now, mobile_told db c.args.id.now c.args.with_symbols c.args.number.now c.args.bytes.now c.as_bytes.result.now n is text, c.give.ensures.too_long small)
