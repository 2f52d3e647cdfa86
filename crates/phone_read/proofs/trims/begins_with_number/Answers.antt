use Rattle.std.proofs.Common.{arith, true≢false, sym, ◌∙◌}
use Rattle.phone_read.proofs.DecimalFronts.{no_number}
use Rattle.phone_read.proofs.trims.begins_with_number.Goals as goal

pub returns-else-is_char_boundary : goal.returns-else-is_char_boundary
returns-else-is_char_boundary c =
    no_number c.args.text.now c.args.number c.decimal_len-len.result (omega (arith, c.ranges.number.fits)) c.decimal_len-len.ensures c.utf8.text
    (λ at. true≢false (sym (c.is_char_boundary.ensures.test.1 at) ∙ c.if-is_char_boundary.false))
