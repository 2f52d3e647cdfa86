use Rattle.std.proofs.Common.{chars, ap, sym, ◌∙◌}
use Rattle.std.proofs.lemmas.Str.{chars-nil}
use Rattle.phone_chars.specs.Characters.{is_digit}
use Rattle.phone_parts.specs.Texts.{begins}
use Rattle.phone_matches.proofs.exact.begins_digit.Goals as goal

pub returns-in-None : goal.returns-in-None
returns-in-None c = sym (ap (begins is_digit) (ap chars c.in-None.ensures.cut ∙ chars-nil))
