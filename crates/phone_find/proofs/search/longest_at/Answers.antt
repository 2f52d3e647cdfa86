use Rattle.std.proofs.Common.{refl, arith}
use Rattle.phone_find.proofs.Searches.{first_of_longest}
use Rattle.phone_find.specs.declared.search.Found.{Found}
use Rattle.phone_find.proofs.search.longest_at.Goals as goal

pub returns-in-Some : goal.returns-in-Some
returns-in-Some g c =
    let f : Found g.row.N.Denot = record {
      start = c.args.start;
      end = c.loop-end.end;
      number =
          c.in-Some.number;
    } in
    let told = rw c.in-Some.is at c.in_ok-number.ensures in (
      first_of_longest (g.J.Judge.accepts c.args.judge.now c.args.text.now) c.args.text.now f
          (record {
            from_border = c.requires.border;
            to_border = c.if-is_char_boundary.ensures.test.0 refl;
            some = omega arith;
            short = omega (arith, c.loop-end.invariant.1);
            accepted = told;
          }) c.loop-end.invariant.2,
      refl,
    )
