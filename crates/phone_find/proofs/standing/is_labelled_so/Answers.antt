use Rattle.std.proofs.Common.{sym, ◌∙◌}
use Rattle.std.specs.Str.{chars}
use Rattle.phone_library_text.proofs.Tests.{any_at}
use Rattle.phone_find.specs.Shapes.{is_labelled}
use Rattle.phone_find.proofs.standing.is_labelled_so.Goals as goal

pub returns-then-is_labelled : goal.returns-then-is_labelled
returns-then-is_labelled c =
    sym (any_at (is_labelled (chars c.args.text.now)) c.args.many.now c.loop-label.label-index _
    c.loop-label-test.true (sym c.is_labelled.ensures ∙ c.if-is_labelled.true))
