use Rattle.regex_hir.proofs.MeaningLemmas.{meaning-Look}
use Rattle.phone_plain.proofs.Parting.{end_read}
use Rattle.phone_plain.proofs.atoms.set_or_end.Goals as goal

pub returns-in-Ok : goal.returns-in-Ok
returns-in-Ok c = end_read c.args.text.now c.in-Ok.rest.now _ c.in-Ok.ensures (meaning-Look _)
