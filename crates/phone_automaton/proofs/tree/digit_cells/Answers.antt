use Rattle.std.proofs.Common.{arith}
use Rattle.phone_automaton.proofs.Reading.{one_digit}
use Rattle.phone_automaton.proofs.tree.digit_cells.Goals as goal

pub returns-then-is_ascii_digit : goal.returns-then-is_ascii_digit
returns-then-is_ascii_digit c =
    let digit = c.if-is_ascii_digit.ensures.cases in
    one_digit c.args.byte c.args.cell (omega (arith, digit)) (omega (arith, digit))
