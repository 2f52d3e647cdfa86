use Rattle.std.proofs.Common.{◌≡◌, ℕ, ◌<◌, ◌≤◌, length}
use Rattle.regex_extract.specs.Frames.{Has, Widens}
use Rattle.phone_automaton.proofs.fronts.mark_range.Given as goal

abbrev pub invariant-loop-byte : goal.invariant-loop-byte
invariant-loop-byte l =
    (length l.set ≡ 256) × ((b : ℕ) → l.first ≤ b → b < l.byte → Has l.set b) × Widens l.fn.set l.set
