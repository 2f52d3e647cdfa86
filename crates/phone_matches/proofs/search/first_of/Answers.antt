use Rattle.std.proofs.Common.{chars, arith}
use Rattle.phone_matches_text.specs.Lent.{StandsThere, told_piece}
use Rattle.phone_matches_text.specs.Shapes.{before_end}
use Rattle.phone_matches.proofs.Firsts.{all_get, first_here, first_next, first_none, first_start}
use Rattle.phone_matches.proofs.search.first_of.Goals as goal

pub loop-at-init : goal.loop-at-init
loop-at-init g c =
    first_start (g.J.Judge.accepts c.args.judge.now) (chars c.args.text.now) (before_end (chars c.args.text.now) (chars c.args.from.now)) c.args.pieces.now

pub placed-place-requires-clause-stands : goal.placed-place-requires-clause-stands
placed-place-requires-clause-stands g c =
    all_get (StandsThere c.args.from.now) c.args.pieces.now c.loop-at.at _ (omega (arith, c.loop-at-test.true)) c.requires.stand

pub returns-in-Some-clause-first : goal.returns-in-Some-clause-first
returns-in-Some-clause-first g c =
    let told = rw c.in-Some.is at c.in_ok-number.ensures.told in
    first_here (g.J.Judge.accepts c.args.judge.now) (chars c.args.text.now) (before_end (chars c.args.text.now) (chars c.args.from.now)) c.args.pieces.now
    c.loop-at.at _ (told_piece c.placed-place.result) c.in-Some.number c.loop-at.invariant (omega (arith, c.loop-at-test.true))
    c.placed-place.ensures.told told

pub returns-in-Some-clause-within : goal.returns-in-Some-clause-within
returns-in-Some-clause-within g c = record {
  stands = c.placed-place.ensures.stands;
  begins = c.placed-place.ensures.within;
  some = rw c.in-Some.is at c.in_ok-number.ensures.some;
}

pub loop-at-preserved : goal.loop-at-preserved
loop-at-preserved g c =
    let told = rw c.in_default.is at c.in_ok-number.ensures.told in
    first_next (g.J.Judge.accepts c.args.judge.now) (chars c.args.text.now) (before_end (chars c.args.text.now) (chars c.args.from.now)) c.args.pieces.now
    c.loop-at.at _ _ (told_piece c.placed-place.result) c.loop-at.invariant (omega (arith, c.loop-at-test.true))
    c.placed-place.ensures.told (omega arith) told

pub returns-clause-first : goal.returns-clause-first
returns-clause-first g c =
    first_none (g.J.Judge.accepts c.args.judge.now) (chars c.args.text.now) (before_end (chars c.args.text.now) (chars c.args.from.now)) c.args.pieces.now
    c.loop-at.at c.loop-at.invariant (omega (arith, c.loop-at-test.false, c.loop-at.auto.at-end))
