use Rattle.phone_parts.proofs.suffix.indicated_unless.Goals as goal

pub returns-then-no_indicator-clause-read : goal.returns-then-no_indicator-clause-read
returns-then-no_indicator-clause-read c = c.requires.unindicated c.if-no_indicator.true
