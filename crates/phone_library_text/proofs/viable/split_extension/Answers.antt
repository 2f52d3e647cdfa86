use Rattle.std.proofs.Common.{sym, ◌∙◌, true≢false}
use Rattle.std.specs.Str.{chars}
use Rattle.phone_library_text.specs.Viable.{extended, not_viable, plain}
use Rattle.phone_library_text.proofs.viable.split_extension.Goals as goal
use Rattle.phone_library_text.proofs.viable.split_extension.Goals.{in-Some+else-is_viable, in_default}

pub returns-then-is_viable-clause-read : goal.returns-then-is_viable-clause-read
returns-then-is_viable-clause-read c =
    extended (chars c.in-Some.front.now) (chars c.in-Some.digits.now) c.in-Some.ensures.read (c.is_viable.ensures.0 c.if-is_viable.true)

pub returns-clause-read : goal.returns-clause-read
returns-clause-read c = elim c.match-find_extension.branch [
  | in-Some+else-is_viable w ↦ not_viable (chars w.in-Some.front.now) (chars w.in-Some.digits.now) w.in-Some.ensures.read
      (λ v. true≢false (sym (w.is_viable.ensures.1 v) ∙ w.if-is_viable.false))
  | in_default w ↦ plain w.in_default.ensures.read
]
