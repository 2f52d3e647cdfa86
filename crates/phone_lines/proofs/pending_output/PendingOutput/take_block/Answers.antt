use Rattle.std.proofs.Common.{[], ◌++◌}
use Rattle.std.proofs.lemmas.List.{append-nil}
use Rattle.phone_lines.proofs.Progress.{Holds-handed}
use Rattle.phone_lines.proofs.TakenProgress.{Holds-breaks, IsReportOnFirst-so_far, IsTakenSoFar-first}
use Rattle.phone_lines.proofs.pending_output.PendingOutput.take_block.Goals as goal

pub returns-in-Ok-clause-taken : goal.returns-in-Ok-clause-taken
returns-in-Ok-clause-taken g c first bytes before s =
    let handed = c.in-Ok.ensures.handed in
    Holds-handed handed.0 _ _ (c.in_ok-take_pieces.ensures.taken first bytes before s) handed.1 handed.2

pub returns-in-Err-clause-broken : goal.returns-in-Err-clause-broken
returns-in-Err-clause-broken g c is first bytes before to_come s =
    let all = bytes ++ c.args.block.now in
    let line = c.take_pieces.new.self.line.items in
    Holds-breaks _ _ first to_come all
    (λ text so_far. IsReportOnFirst-so_far _ _ first to_come all text (IsTakenSoFar-first _ _ first all [] all line c.take_pieces.new.taker text (append-nil all) so_far))
    (c.in_ok-take_pieces.ensures.taken first bytes before s) c.in-Err.ensures.front
