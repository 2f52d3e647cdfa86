use Rattle.std.proofs.Common.{◌+◌, ◌<◌, ℕ, length, arith}
use Rattle.phone_find.specs.Founds.{IsDecided}
use Rattle.phone_find.specs.Numbers.{IsNumberAt}
use Rattle.phone_find.proofs.Somes.{below_next, some_found}
use Rattle.phone_find.proofs.laws.some_numbers.Goals as goal

pub loop-start-preserved : goal.loop-start-preserved
loop-start-preserved c rules db hint l =
    let text = c.args.text.now in
    below_next (λ start. (end : ℕ) → end < length text → IsDecided (IsNumberAt rules db hint l text) text
    start (end + 1)) c.loop-start.start (c.loop-start.invariant rules db hint l) (c.some_pieces_at.ensures
    rules db hint l)

pub returns : goal.returns
returns c rules db hint l =
    let text = c.args.text.now in
    some_found (IsNumberAt rules db hint l text) text (λ start end before.
    c.loop-start.invariant rules db hint l start (omega (arith, before, c.loop-start-test.false)) end)
