use Rattle.std.proofs.Common.{◌-◌, ◌≤◌, ap, arith, drop, length, subst, sym, ◌∙◌}
use Rattle.phone_encodings.proofs.RoomLemmas.{front_most, pass_view}
use Rattle.phone_encodings.proofs.waiting.Waiting.pass.Goals as goal

pub returns : goal.returns
returns c =
    let w = c.self.inside in
    let most = front_most (w.filled - w.passed) (drop w.passed w.room) in
    let long = subst (λ xs. c.args.n ≤ length xs) (sym c.self.view_is) c.requires in
    pass_view w.room w.passed w.filled c.args.n
    (omega (arith, most, long, c.self.invariant.0)) ∙ ap (drop c.args.n) c.self.view_is
