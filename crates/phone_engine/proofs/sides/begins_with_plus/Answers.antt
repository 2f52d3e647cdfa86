use Rattle.std.proofs.Common.{rules}
use Rattle.phone_chars.specs.Characters.{is_plus}
use Rattle.phone_parts.proofs.Patterns.{starts-answers}
use Rattle.phone_engine.proofs.sides.begins_with_plus.Goals as goal

pub returns : goal.returns
returns c = starts-answers _ _ is_plus c.args.text.now c.starts_with.result c.utf8.text c.starts_with.ensures.cases (λ a r f k. search rules)
