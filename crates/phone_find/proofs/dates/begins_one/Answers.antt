use Rattle.std.proofs.Common.{sym, ◌∙◌}
use Rattle.std.specs.Str.{chars}
use Rattle.phone_library_text.proofs.Tests.{any_at}
use Rattle.phone_find.specs.Walks.{fits}
use Rattle.phone_find.proofs.dates.begins_one.Goals as goal

pub returns-then-fits : goal.returns-then-fits
returns-then-fits c =
    sym (any_at (λ d. fits d (chars c.args.text.now)) c.args.many.now c.loop-signs.signs-index _
    c.loop-signs-test.true (sym c.fits.ensures ∙ c.if-fits.true))
