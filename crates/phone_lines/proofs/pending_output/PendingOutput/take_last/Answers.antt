use Rattle.std.proofs.Common.{rules, ◌≡◌, ◌==◌, false, length}
use Rattle.phone_lines.proofs.Progress.{Holds-on}
use Rattle.phone_lines.proofs.TakenProgress.{IsTakenSoFar-last}
use Rattle.phone_lines.proofs.pending_output.PendingOutput.take_last.Goals as goal

pub returns-clause-taken : goal.returns-clause-taken
returns-clause-taken g c first bytes before after s =
    let added = c.in_ok-add_taken.ensures.added in
    let some : (length c.args.self.now.line.items == 0) ≡ false = search rules in
    rw added.2
    (Holds-on (λ written. IsTakenSoFar-last _ _ first bytes _ written _ added.0 _ _ some (rw c.as_slice-line.ensures.value at added.1)) s)
