use Rattle.std.proofs.Common.{◌≡◌, chars, drop, slice_range, take, ap, ◌∙◌}
use Rattle.std.proofs.Math.Nat.{sub-zero}
use Rattle.phone_find.specs.Standing.{is_shaped}
use Rattle.phone_find.proofs.Begins.{by_shape, read_piece}
use Rattle.phone_find.proofs.numbers.is_candidate.Goals as goal

pub returns-then-not-is_shaped : goal.returns-then-not-is_shaped
returns-then-not-is_shaped c =
    let text = c.args.text.now in
    let start = c.args.start in
    let end = c.args.end in
    (by_shape (chars (take start text)) (chars (slice_range text start end)) (chars (drop end text)) (chars (drop start text)) c.is_shaped.result
    c.requires.ended (read_piece text start end c.utf8.text c.requires.some c.requires.from_border c.requires.to_border)
    (c.is_shaped.ensures ∙ ap (λ t. is_shaped (chars t)) c.range.ensures.value)).0 c.if-not-is_shaped.true

pub returns : goal.returns
returns c =
    let text = c.args.text.now in
    let start = c.args.start in
    let end = c.args.end in
    rw (c.range-2.ensures.value, c.range_from.ensures.value, sub-zero) at c.may_begin.ensures ∙
    (by_shape (chars (take start text)) (chars (slice_range text start end)) (chars (drop end text)) (chars (drop start text)) c.is_shaped.result
    c.requires.ended (read_piece text start end c.utf8.text c.requires.some c.requires.from_border c.requires.to_border)
    (c.is_shaped.ensures ∙ ap (λ t. is_shaped (chars t)) c.range.ensures.value)).1 c.if-not-is_shaped.false
