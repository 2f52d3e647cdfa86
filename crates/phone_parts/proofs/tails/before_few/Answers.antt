use Rattle.std.proofs.Common.{length, length-append, ap, sym, ◌∙◌, arith}
use Rattle.std.proofs.lemmas.Str.{chars-nil}
use Rattle.std.specs.Str.{chars}
use Rattle.phone_parts.proofs.Longest.{stops_at_other}
use Rattle.phone_parts.proofs.tails.before_few.Goals as goal

pub returns-in_default-clause-read : goal.returns-in_default-clause-read
returns-in_default-clause-read g c =
    let i = c.loop-taken.invariant.2 in
    record {
      end = i.0;
      whole = i.1;
      kind = record { only = i.2; few = omega (arith, i.3, c.loop-taken-test.true) };
      longest = λ before other e k. omega (arith, ap length (ap chars c.in_default.ensures.cut ∙ chars-nil));
    }

pub returns-then-not-has-clause-read : goal.returns-then-not-has-clause-read
returns-then-not-has-clause-read g c =
    let i = c.loop-taken.invariant.2 in
    record {
      end = i.0;
      whole = i.1;
      kind = record { only = i.2; few = omega (arith, i.3, c.loop-taken-test.true) };
      longest = λ before other e k.
          stops_at_other (g.S.CharSet.members c.args.set.now) (chars c.loop-taken.left.now) i.0 (chars c.in-Some.front.now) c.in-Some.c c.in-Some.ensures.read
          (sym c.has.ensures ∙ c.if-not-has.true) before other (sym i.1 ∙ e) k.only;
    }

pub returns-clause-read : goal.returns-clause-read
returns-clause-read g c =
    let i = c.loop-taken.invariant.2 in
    record {
      end = i.0;
      whole = i.1;
      kind = record { only = i.2; few = omega (arith, i.3, c.loop-taken.auto._taken-end) };
      longest = λ before other e k.
          omega (arith, k.few, i.3, c.loop-taken-test.false, ap length (sym i.1 ∙ e), length-append (chars c.loop-taken.left.now) i.0, length-append before other);
    }
