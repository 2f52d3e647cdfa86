use Rattle.std.proofs.Common.{sym, ◌∙◌}
use Rattle.std.specs.Str.{chars}
use Rattle.phone_library_text.specs.Scans.{follows}
use Rattle.phone_library_text.proofs.Tests.{any_at}
use Rattle.phone_library_text.proofs.labels.follows_some.Goals as goal

pub returns-then-follows : goal.returns-then-follows
returns-then-follows c =
    sym (any_at (follows (chars c.args.text.now)) c.args.words.now c.loop-word.word-index _ c.loop-word-test.true (sym c.follows.ensures ∙ c.if-follows.true))
