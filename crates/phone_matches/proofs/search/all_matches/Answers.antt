use Rattle.std.proofs.Common.{chars, rules, arith}
use Rattle.phone_matches.proofs.Steps.{all_found, all_spent, so_far_next}
use Rattle.phone_matches.specs.Told.{told_found, told_matches}
use Rattle.phone_matches.proofs.search.all_matches.Goals as goal

pub returns-in_default-clause-matches : goal.returns-in_default-clause-matches
returns-in_default-clause-matches g c =
    let none = rw c.in_default.is at c.in_ok-step.ensures.step in
    all_found (g.J.Judge.accepts c.args.judge.now) (chars c.args.text.now) c.args.tries c.loop-left.left (chars c.loop-left.rest.now)
    (told_matches c.loop-left.all.items) c.loop-left.invariant.2 none

pub loop-left-preserved : goal.loop-left-preserved
loop-left-preserved g c =
    let step = rw c.in-Some.is at c.in_ok-step.ensures.step in
    let stands = rw c.in-Some.is at c.in_ok-step.ensures.stands in (
      search rules,
      rw c.in-Some.is at c.in_ok-step.ensures.end,
      so_far_next (g.J.Judge.accepts c.args.judge.now) (chars c.args.text.now) c.args.tries c.loop-left.left (chars c.loop-left.rest.now)
          (told_matches c.loop-left.all.items) (told_matches c.push_found.new.all.items) (told_found c.in-Some.step.found) c.in-Some.step.left
          (chars c.in-Some.step.rest.now) c.loop-left.invariant.2 (omega (arith, c.loop-left-test.true)) step c.in_ok-push_found.ensures.told,
      c.in_ok-push_found.ensures.stand c.args.text.now c.loop-left.invariant.3 stands,
    )

pub loop-left-smaller : goal.loop-left-smaller
loop-left-smaller g c = rw c.in-Some.is at c.in_ok-step.ensures.shorter

pub returns-clause-matches : goal.returns-clause-matches
returns-clause-matches g c =
    all_spent (g.J.Judge.accepts c.args.judge.now) (chars c.args.text.now) c.args.tries c.loop-left.left (chars c.loop-left.rest.now)
    (told_matches c.loop-left.all.items) c.loop-left.invariant.2 (omega (arith, c.loop-left-test.false))
