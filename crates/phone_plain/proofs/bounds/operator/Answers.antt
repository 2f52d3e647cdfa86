use Rattle.std.proofs.Common.{refl}
use Rattle.std.proofs.lemmas.Result.{IfOk-weaker}
use Rattle.phone_plain.proofs.Counting.{optional_read, braced_read}
use Rattle.phone_plain.proofs.bounds.operator.Goals as goal
use Rattle.phone_plain.specs.Counts.{AreCounts, IsOperator}

pub returns-in-Ok : goal.returns-in-Ok
returns-in-Ok c = optional_read c.args.text.now c.in-Ok.rest.now _ c.in-Ok.ensures refl refl

pub returns : goal.returns
returns c =
    IfOk-weaker c.counts.result (λ p. AreCounts c.in_ok-behind.field-0.now p.0 p.1.now) (λ p. IsOperator c.args.text.now p.0 p.1.now)
    (λ p counts. braced_read c.args.text.now c.in_ok-behind.field-0.now p.1.now p.0 c.in_ok-behind.ensures counts) c.counts.ensures
