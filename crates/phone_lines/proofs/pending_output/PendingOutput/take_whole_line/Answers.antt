use Rattle.std.proofs.Common.{[]}
use Rattle.phone_lines.proofs.TakenProgress.{IsTakenSoFar-line}
use Rattle.phone_lines.proofs.pending_output.PendingOutput.take_whole_line.Goals as goal

pub returns-clause-taken : goal.returns-clause-taken
returns-clause-taken g c first bytes written so_far =
    let added = c.in_ok-add_taken.ensures.added in
    rw (added.2, c.requires.nothing)
    (IsTakenSoFar-line _ _ first bytes [] c.args.line.now written c.args.self.now.answers.items added.0 _ _
    (rw c.requires.nothing at so_far) c.requires.unbroken added.1)
