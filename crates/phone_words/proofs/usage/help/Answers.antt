use Rattle.std.proofs.Common.{IfOk, string_bytes, ◌≡◌, ◌++◌}
use Rattle.phone_words.specs.Help.{help_text}
use Rattle.phone_words.proofs.usage.help.Goals as goal

pub returns : goal.returns
unfolding help_text
returns c = rw (c.first_rows.ensures, c.more_rows.ensures) at c.help_of.ensures
