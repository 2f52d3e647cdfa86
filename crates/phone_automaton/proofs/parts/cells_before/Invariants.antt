use Rattle.std.proofs.Common.{◌≡◌, ◌+◌, take}
use Rattle.regex_syntax.specs.Same.{sequence}
use Rattle.phone_automaton.specs.Parts.{AreBefore}
use Rattle.phone_automaton.proofs.parts.cells_before.Given as goal

abbrev pub invariant-loop-i : goal.invariant-loop-i
invariant-loop-i l =
    (b : AreBefore l.cells.items l.i (sequence (take l.i l.subs))) × (l.cell ≡ b.at + 1)
