use Rattle.std.proofs.Common.{ℕ, ◌+◌, ◌≤◌, List, ◌++◌, length, take, drop, sym, ap, ◌∙◌, arith, length-append}
use Rattle.phone_c_base.proofs.Places.{copies-append}
use Rattle.phone_c_base.proofs.buffer.give_two.Goals as goal

pub returns-clause-written : goal.returns-clause-written
returns-clause-written c =
    let a = c.args.first.now in let b = c.args.second.now in
    let room : length a + length b ≤ length c.args.out.now = omega arith in
    λ _. record {
      room = omega (arith, length-append a b);
      text = c.copy-2.ensures ∙ ap (λ (ys : List ℕ). take (length a) ys ++ b ++ drop (length a + length b) ys) c.copy.ensures
          ∙ copies-append a b c.args.out.now room;
      told = sym (length-append a b);
    }
