use Rattle.std.proofs.Common.{◌≡◌, ◌<◌, ◌≤◌, ◌+◌, drop, length}
use Rattle.std.specs.Option.{option_or}
use Rattle.regex_dfa.specs.Links.{best}
use Rattle.phone_automaton.specs.Digits.{end_by}
use Rattle.phone_automaton.proofs.digits.Digits.end_in_digits.Given as goal

abbrev pub invariant-loop-at : goal.invariant-loop-at
invariant-loop-at l =
    (0 < l.place) × (l.place + 11 ≤ length l.cells) × (l.last ≤ l.at)
    × (end_by l.cells 11 0 l.text ≡ option_or (end_by l.cells l.place l.at (drop l.at l.text))
    (best l.last))
