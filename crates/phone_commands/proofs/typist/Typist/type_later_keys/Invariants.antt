use denote.Shadow.{shadow}
use denote.Text.{Utf8}
use Rattle.std.proofs.Common.{◌≡◌, ◌++◌, chars, length}
use Rattle.phone_commands.specs.TypedLines.{behind_bars, shown_after_each}
use Rattle.phone_typed.specs.Keys.{with_keys}
use Rattle.phone_commands.proofs.typist.Typist.type_later_keys.Given as goal

abbrev pub invariant-loop-c : goal.invariant-loop-c
invariant-loop-c l = shadow (Utf8 l.rest) ×
    (l.answers.items ++ behind_bars (shown_after_each l.self.field (chars l.rest)) ≡
    l.initial.answers.items ++
    behind_bars (shown_after_each l.initial.self.field (chars l.text))) ×
    (record l.self.field { keys = with_keys l.self.field.keys (chars l.rest) } ≡
    record l.initial.self.field { keys = with_keys l.initial.self.field.keys (chars l.text) })

abbrev pub decreases-loop-c : goal.decreases-loop-c
decreases-loop-c l = length l.rest
