use Rattle.std.proofs.Common.{◌≡◌, OnOk, Result, ap, subst, sym, ◌∙◌}
use Rattle.std.specs.declared.alloc.AllocError.{AllocError}
use Rattle.phone_typed.specs.Steps.{typed}
use Rattle.phone_typed.proofs.field.Keyed.with.Goals as goal

pub returns : goal.returns
returns c =
    let IsSo = λ (r : Result (Unit {0}) AllocError). OnOk r (c.change-done.new.self ≡ typed c.args.c c.in_ok-next.next) in
    let done : c.change-done.new.self ≡ typed c.args.c c.in_ok-next.next = subst IsSo c.in_ok-next-2.ensures.made.0 c.change-done.ensures in
    sym c.in_ok-next-2.ensures.made.1 ∙ done ∙ ap (typed c.args.c) c.in_ok-next.ensures
