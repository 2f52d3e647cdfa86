use Rattle.std.proofs.Common.{sym, ◌∙◌}
use Rattle.std.specs.Str.{chars}
use Rattle.phone_parts.proofs.Announcers.{no_announcer}
use Rattle.phone_parts.proofs.suffix.find_suffix.Goals as goal

pub returns-else-has_announcer-clause-read : goal.returns-else-has_announcer-clause-read
returns-else-has_announcer-clause-read c = no_announcer (chars c.args.text.now) (sym c.has_announcer.ensures ∙ c.if-has_announcer.false)
