use Rattle.std.proofs.Common.{◌≡◌, ◌≤◌, ◌++◌, ◌-◌, ℕ, List, drop, length}
use Rattle.regex.specs.Templates.{written_after}
use Rattle.regex_syntax.specs.Grammar.{Names}
use Rattle.std.specs.Str.{IsAscii, IsUtf8}
use Rattle.phone_automaton.specs.Templates.{AreTexts, put_in}
use Rattle.phone_automaton.proofs.template.push_written.Given as goal

abbrev pub invariant-loop-at : goal.invariant-loop-at
invariant-loop-at l =
    (l.at ≤ length l.template)
    × ((names : Names) (text_of : ℕ → List ℕ) → AreTexts l.hay l.span (put_in l.cells l.place l.span.1) text_of →
    l.out.items ++ written_after names text_of (drop l.at l.template) 0 ≡ l.initial.out.items ++ written_after names text_of l.template 0)
    × (IsAscii l.hay → IsUtf8 (l.initial.out.items ++ l.template) → IsUtf8 (l.out.items ++ drop l.at l.template))

abbrev pub decreases-loop-at : goal.decreases-loop-at
decreases-loop-at l = length l.template - l.at
