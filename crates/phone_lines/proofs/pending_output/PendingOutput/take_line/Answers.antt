use Rattle.phone_lines.proofs.TakenProgress.{IsTakenSoFar-line}
use Rattle.phone_lines.proofs.pending_output.PendingOutput.take_line.Goals as goal

pub returns-clause-taken : goal.returns-clause-taken
returns-clause-taken g c first bytes written so_far =
    let added = c.in_ok-add_taken.ensures.added in
    rw (c.clear.ensures.items, added.2)
    (IsTakenSoFar-line _ _ first bytes c.args.self.now.line.items c.args.rest.now written c.args.self.now.answers.items added.0 _ _ so_far c.requires
    (rw (c.as_slice.ensures.value, c.in_ok-extend_from_slice.ensures.items) at added.1))
