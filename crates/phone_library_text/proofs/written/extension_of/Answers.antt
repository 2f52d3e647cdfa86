use Rattle.std.proofs.Common.{sym, ◌∙◌}
use Rattle.std.proofs.lemmas.Str.{encodes-chars}
use Rattle.phone_library_text.proofs.written.extension_of.Goals as goal

pub returns-clause-extension : goal.returns-clause-extension
returns-clause-extension c = c.from.ensures ∙ c.in_ok-from_str.ensures.ok ∙ sym (encodes-chars c.args.text.now c.utf8.text)
