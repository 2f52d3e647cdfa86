use Rattle.std.proofs.Common.{refl}
use Rattle.phone_dialling.proofs.Answered.{behind_plus, no_plus}
use Rattle.phone_dialling.proofs.texts.signless.Goals as goal

pub returns-in-Some : goal.returns-in-Some
returns-in-Some c = behind_plus c.args.text.now c.in-Some.rest.now c.in-Some.ensures.found

pub returns-in-None : goal.returns-in-None
returns-in-None c = no_plus c.args.text.now (c.in-None.ensures.none refl)
