use Rattle.std.proofs.Common.{ap, is_ok}
use Rattle.phone_print.proofs.Behinds.{behind-kept, behind-same, done-kept}
use Rattle.phone_print.proofs.appending.push_text.Goals as goal

pub returns-in_err-done-clause-behind : goal.returns-in_err-done-clause-behind
returns-in_err-done-clause-behind c = behind-same _

pub returns-clause-text : goal.returns-clause-text
returns-clause-text c = done-kept c.push_str.result _ c.args.text.now _ (ap is_ok c.in_ok-done.was) c.push_str.ensures.bytes

pub returns-clause-behind : goal.returns-clause-behind
returns-clause-behind c = behind-kept c.push_str.result _ c.args.text.now _ c.push_str.ensures.bytes
