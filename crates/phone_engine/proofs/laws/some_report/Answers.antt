use Rattle.std.proofs.Common.{◌+◌, slice_range, take, sym, subst, arith}
use Rattle.phone_engine.proofs.SomeReports.{HasLine, HaveSoFar, have_all, have_last, have_line}
use Rattle.phone_engine.proofs.SomeReports.{have_next, have_nothing}
use Rattle.phone_engine.proofs.laws.some_report.Goals as goal
use Rattle.phone_engine.proofs.laws.some_report.Goals.{then-bytes-end-eq10, else-bytes-end-eq10}

pub loop-end-init : goal.loop-end-init
loop-end-init c = record { in_front = omega arith; have = have_nothing }

pub loop-end-preserved : goal.loop-end-preserved
loop-end-preserved c =
    let bytes = c.args.bytes.now in
    let start = c.loop-end.start in
    let end = c.loop-end.end in
    let was = c.loop-end.invariant in
    elim c.if-bytes-end-eq10.branch [
      | then-bytes-end-eq10 w ↦ record {
        in_front = omega (arith, w.start-is);
        have = subst (λ s. HaveSoFar (take (end + 1) bytes) (slice_range bytes s (end + 1)))
            (sym w.start-is)
            (have_line bytes start end c.loop-end-test.true was.have w.if-bytes-end-eq10.true
            (subst HasLine w.without_return.ensures w.some_report_line.ensures));
      }
      | else-bytes-end-eq10 w ↦ record {
        in_front = omega (arith, w.start-is, was.in_front);
        have = subst (λ s. HaveSoFar (take (end + 1) bytes) (slice_range bytes s (end + 1)))
            (sym w.start-is)
            (have_next bytes start end was.in_front c.loop-end-test.true was.have
            w.if-bytes-end-eq10.false);
      }
    ]

pub returns-then-start-bytes : goal.returns-then-start-bytes
returns-then-start-bytes c =
    have_last c.args.bytes.now c.loop-end.start c.loop-end.end
    (omega (arith, c.loop-end-test.false)) c.loop-end.invariant.have c.if-start-bytes.true
    (subst HasLine c.without_return-then-start-bytes.ensures
    c.some_report_line-then-start-bytes.ensures)

pub returns-else-start-bytes : goal.returns-else-start-bytes
returns-else-start-bytes c =
    have_all c.args.bytes.now c.loop-end.start c.loop-end.end
    (omega (arith, c.loop-end-test.false)) c.loop-end.invariant.have
    (omega (arith, c.if-start-bytes.false))
