use Rattle.std.proofs.Common.{chars, drop, slice_range, take, refl, subst, arith}
use Rattle.phone_engine.specs.Readings.{ReadsBy}
use Rattle.phone_find.specs.Numbers.{IsNumberAt}
use Rattle.phone_find.proofs.Somes.{decided}
use Rattle.phone_find.proofs.Told.{some_told, some_told_piece}
use Rattle.phone_find.proofs.laws.some_piece.Goals as goal

pub returns-then-is_char_boundary-2 : goal.returns-then-is_char_boundary-2
returns-then-is_char_boundary-2 c rules db hint l =
    let text = c.args.text.now in
    let start = c.args.start in
    let end = c.args.end in
    let piece = slice_range text start end in
    let r = c.some_reading.ensures rules db hint in
    let reads = subst (λ t. ReadsBy rules db hint (chars t) r.0) c.range.ensures.value r.1 in
    let told = some_told_piece rules db hint l (take start text) piece (drop end text) (some_told rules db hint
    l piece r.0 reads) in
    decided (IsNumberAt rules db hint l text) text start end (c.if-is_char_boundary.ensures.test.0 refl)
    (c.if-is_char_boundary-2.ensures.test.0 refl) c.if-start-end.true (omega (
      arith,
      c.if-end-start-le250.true,
    )) told.0 told.1
