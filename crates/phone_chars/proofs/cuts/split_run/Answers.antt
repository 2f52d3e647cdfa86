use Rattle.phone_chars.proofs.Runs.{front_before}
use Rattle.phone_chars.proofs.cuts.split_run.Goals as goal

pub returns-clause-front : goal.returns-clause-front
returns-clause-front g c = front_before _ _ _ _ (c.before-2.ensures.read c.after_run-rest.ensures.end) c.after_run-rest.ensures.rest
