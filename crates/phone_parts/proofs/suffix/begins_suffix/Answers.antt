use Rattle.std.proofs.Common.{rules}
use Rattle.phone_parts.specs.Suffixes.{is_suffix_start}
use Rattle.phone_parts.proofs.Patterns.{starts-answers}
use Rattle.phone_parts.proofs.suffix.begins_suffix.Goals as goal

pub returns : goal.returns
returns c = starts-answers _ _ is_suffix_start _ _ c.utf8.text c.starts_with.ensures.cases (λ a r f k. search rules)
