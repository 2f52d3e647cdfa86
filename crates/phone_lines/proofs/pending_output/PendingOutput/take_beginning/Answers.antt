use Rattle.std.proofs.Common.{refl, [], ◌∙◌}
use Rattle.phone_lines.proofs.Progress.{Holds-handed}
use Rattle.phone_lines.proofs.TakenProgress.{Holds-breaks, Holds-unbegun, IsReportOnFirst-so_far, IsTakenSoFar-first, Stands-begun}
use Rattle.phone_lines.proofs.pending_output.PendingOutput.take_beginning.Goals as goal

pub returns-in_default-clause-memory : goal.returns-in_default-clause-memory
returns-in_default-clause-memory g c is = Holds-unbegun _ _ _ _ _ (c.in_default.ensures.kept ∙ c.requires.nothing)

pub returns-in-Err-clause-broken : goal.returns-in-Err-clause-broken
returns-in-Err-clause-broken g c is to_come =
    let added = c.in-Ok.ensures.added in
    let s = Stands-begun _ _ _ (g.W.ByteSink.taken c.args.sink.now) added.0 _ added.1 in
    Holds-breaks _ _ _ to_come []
    (λ text so_far. IsReportOnFirst-so_far _ _ _ to_come [] text (IsTakenSoFar-first _ _ _ [] [] [] [] _ text refl so_far)) s
    (rw (added.2, c.requires.nothing) at c.in-Err.ensures.front)

pub returns-in-Ok-hand_on-clause-begun : goal.returns-in-Ok-hand_on-clause-begun
returns-in-Ok-hand_on-clause-begun g c =
    let added = c.in-Ok.ensures.added in
    let handed = c.in-Ok-hand_on.ensures.handed in
    rw c.requires.line
    (Holds-handed handed.0 _ _ (Stands-begun _ _ _ (g.W.ByteSink.taken c.args.sink.now) added.0 _ added.1)
    (rw (added.2, c.requires.nothing) at handed.1) handed.2)
