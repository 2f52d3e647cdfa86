use Rattle.std.proofs.Common.{◌==◌, eqb-true, ap, ◌∙◌}
use Rattle.std.proofs.lemmas.Bool.{false_from_ne_true}
use Rattle.std.proofs.lemmas.Str.{chars-nil}
use Rattle.std.specs.Str.{chars}
use Rattle.phone_parts.specs.Suffixes.{is_sign}
use Rattle.phone_parts.specs.Texts.{ends}
use Rattle.phone_parts.proofs.Cores.{ends-push}
use Rattle.phone_library_text.proofs.Viables.{unsigned_of}
use Rattle.phone_library_text.proofs.ends.split_sign.Goals as goal
use Rattle.phone_library_text.proofs.ends.split_sign.Goals.{in-Some+else-c-eq35, in_default}

pub returns-clause-read : goal.returns-clause-read
returns-clause-read c = elim c.match-split_last.branch [
  | in-Some+else-c-eq35 w ↦ unsigned_of (chars c.args.text.now)
      (ap (ends is_sign) w.in-Some.ensures.read ∙ ends-push is_sign (chars w.in-Some.front.now) w.in-Some.c
      ∙ false_from_ne_true (w.in-Some.c == 35) (λ e. w.if-c-eq35.false (eqb-true w.in-Some.c 35 e)))
  | in_default w ↦ unsigned_of (chars c.args.text.now) (ap (λ t. ends is_sign (chars t)) w.in_default.ensures.cut ∙ ap (ends is_sign) chars-nil)
]
