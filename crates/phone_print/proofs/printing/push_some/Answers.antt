use Rattle.phone_print.proofs.Behinds.{refused-unchanged}
use Rattle.phone_print.proofs.printing.push_some.Goals as goal

pub returns-in_err-digits-clause-behind : goal.returns-in_err-digits-clause-behind
returns-in_err-digits-clause-behind c = refused-unchanged c.from_residual.result _
