use Rattle.std.proofs.Common.{◌≡◌, true, not, ap, refl}
use Rattle.std.proofs.lemmas.Bool.{true_from_ne_false}
use Rattle.phone_commands.specs.EncodedJobs.ActsUnmarked.{answered, unread, utf_16}
use Rattle.phone_commands.proofs.AskedLemmas.{asked}
use Rattle.phone_commands.proofs.inputs.on_asked.Goals as goal

pub returns-in-Ok-true : goal.returns-in-Ok-true
returns-in-Ok-true g c =
    let asks = true_from_ne_false c.args.asks (λ e. let no = c.if-not-asks.false in
    let n : not c.args.asks ≡ true = ap not e in cc) in
    let e = c.in-Ok-true.ensures in
    rw (e.to_come, e.no_fault) (asked _ _ _ _ _ _ _ asks
    (utf_16 (rw c.in-Ok-true.field-0-test at e.mark) refl refl))

pub returns-in-Ok-false : goal.returns-in-Ok-false
returns-in-Ok-false g c =
    let asks = true_from_ne_false c.args.asks (λ e. let no = c.if-not-asks.false in
    let n : not c.args.asks ≡ true = ap not e in cc) in
    let e = c.in-Ok-false.ensures in
    asked _ _ _ _ _ _ _ asks (answered _ (rw c.in-Ok-false.field-0-test at e.mark)
    (rw (e.to_come, e.no_fault) at c.answer-in-Ok-false.ensures))

pub returns-in-Err : goal.returns-in-Err
returns-in-Err g c =
    let asks = true_from_ne_false c.args.asks (λ e. let no = c.if-not-asks.false in
    let n : not c.args.asks ≡ true = ap not e in cc) in
    let e = c.in-Err.ensures in
    rw (e.to_come, e.fault) (asked _ _ _ _ _ _ _ asks (unread refl refl))
