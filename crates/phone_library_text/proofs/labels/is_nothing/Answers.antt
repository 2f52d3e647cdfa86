use Rattle.std.proofs.Common.{◌∙◌}
use Rattle.phone_library_text.proofs.Tests.{nil_test}
use Rattle.phone_library_text.proofs.labels.is_nothing.Goals as goal

pub returns : goal.returns
returns c = c.is_empty.ensures ∙ nil_test c.args.text.now c.utf8.text
