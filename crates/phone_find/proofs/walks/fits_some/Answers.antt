use Rattle.std.proofs.Common.{sym, ◌∙◌, reverse}
use Rattle.std.specs.Str.{chars}
use Rattle.phone_library_text.proofs.Tests.{any_at}
use Rattle.phone_find.specs.Walks.{fits_place}
use Rattle.phone_find.proofs.walks.fits_some.Goals as goal

pub returns-then-fits_place : goal.returns-then-fits_place
returns-then-fits_place c =
    sym (any_at (λ r. fits_place r (reverse (chars c.args.before.now)) (chars c.args.from.now))
    c.args.rules.now c.loop-rule.rule-index _ c.loop-rule-test.true
    (sym c.fits_place.ensures ∙ c.if-fits_place.true))
