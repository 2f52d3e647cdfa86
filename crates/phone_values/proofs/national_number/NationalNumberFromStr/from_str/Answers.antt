use Rattle.std.proofs.Common.{◌≤◌, None, Some, ◌∙◌, arith}
use Rattle.phone_values.proofs.Digits.{number_some, number_none, national_in_parts, national_with_new, national_with_many}
use Rattle.phone_values.proofs.national_number.NationalNumberFromStr.from_str.Goals as goal

pub returns-in_default : goal.returns-in_default
returns-in_default c =
    let split = c.split_zeros-zeros in
    national_in_parts c.args.text.now split.result.1.now split.result.0 None split.ensures.count split.ensures.rest
    (number_none 64 split.result.1.now c.in_default.ensures.value.0)

pub returns-in-Ok-try_from : goal.returns-in-Ok-try_from
returns-in-Ok-try_from c =
    let split = c.split_zeros-zeros in
    let zeros = c.in-Ok-try_from.ensures in
    national_with_new c.in-Ok-try_from.zeros c.in-Ok.value c.new.result (omega arith) c.new.ensures
    ∙ national_in_parts c.args.text.now split.result.1.now c.in-Ok-try_from.zeros (Some c.in-Ok.value) (zeros.1 ∙ split.ensures.count) split.ensures.rest
    (number_some 64 split.result.1.now c.in-Ok.value c.in-Ok.ensures.value.0)

pub returns-in-Err : goal.returns-in-Err
returns-in-Err c =
    let split = c.split_zeros-zeros in
    let many : 256 ≤ split.result.0 = omega (arith, c.in-Err.ensures) in
    national_with_many split.result.0 c.in-Ok.value many
    ∙ national_in_parts c.args.text.now split.result.1.now split.result.0 (Some c.in-Ok.value) split.ensures.count split.ensures.rest
    (number_some 64 split.result.1.now c.in-Ok.value c.in-Ok.ensures.value.0)
